use Rattle.std.proofs.Common.{◌≡◌, ◌<◌, ◌≤◌, length, refl, arith, ◌∙◌}
use Rattle.std.proofs.lemmas.List.{length-set}
use Rattle.kt_body.specs.declared.ops.Got.TheVariants as got
use Rattle.kt_body.proofs.Steps.{can_load, ran_give, ran_load, still_can, still_err, still_here, still_is, still_next}
use Rattle.kt_tiles.proofs.Rowed.{load_begin, load_done, load_kept, load_more}
use Rattle.kt_tiles.proofs.rows.load_row.Goals as goal

pub loop-i-init : goal.loop-i-init
loop-i-init g c = (refl, still_is _ _ _ (still_here _ c.requires.can) (load_begin c.args.object _ c.args.into.now))

pub load-requires : goal.load-requires
load-requires g c =
    let same = c.loop-i.invariant.0 in
    let s = still_is _ _ _ c.loop-i.invariant.1 (load_more _ _ _ _ (omega arith)) in
    can_load _ _ _ _ (still_can _ _ _ s)

pub returns-in-Halt-clause-ran : goal.returns-in-Halt-clause-ran
returns-in-Halt-clause-ran g c =
    let same = c.loop-i.invariant.0 in
    let s = still_is _ _ _ c.loop-i.invariant.1 (load_more _ _ _ _ (omega arith)) in
    still_err _ _ _ s (ran_load _ _ _ _ _ _ _ got.Halt c.in-Halt.ensures)

pub loop-i-preserved : goal.loop-i-preserved
loop-i-preserved g c =
    let same = c.loop-i.invariant.0 in
    let below : c.loop-i.i < length c.loop-i.into = omega arith in
    let s = still_is _ _ _ c.loop-i.invariant.1 (load_more _ _ _ _ (omega arith)) in
    let t = still_next _ _ _ s (ran_load _ _ _ _ _ _ _ (got.Value _) c.in-Value.ensures) in
    (length-set _ _ _ ∙ same, still_is _ _ _ t (load_kept _ _ _ _ _ below))

pub returns-clause-ran : goal.returns-clause-ran
returns-clause-ran g c =
    let same = c.loop-i.invariant.0 in
    (still_is _ _ _ c.loop-i.invariant.1 (load_done _ _ _ _ (omega arith) same)).ends _ _ (ran_give _ _)
