use Rattle.std.proofs.Common.{arith, ◌≡◌, ℕ, ◌+◌, ◌≤◌, List, length, ap, ◌∙◌, sym, subst}
use mathlib.Core.Option.{some}
use lib.ListN.{get_elem?}
use Rattle.kt_law.specs.declared.accesses.Access.{Access}
use Rattle.kt_prog.specs.Calls.{CallTree}
use Rattle.kt_words.specs.Words.{packed_head, packed_pair, IsAccess}
use Rattle.kt_tasks.specs.Fields.{AreClear}
use Rattle.kt_tasks.proofs.Fields.{all_built}
use Rattle.kt_tasks.proofs.Filling.{filled_one, filled_then, clear_more, set_so}
use Rattle.kt_tasks.proofs.records.write_fields.Goals as goal

clear_3 : (c : goal.After-from-2) → AreClear 4 c.set-3.new.s.token.me.0
clear_3 c =
    let one = clear_more c.args.s.now.token.me.0 c.set.new.s.token.me.0 1 _ c.set.ensures.set c.requires.clear in
    let two = clear_more c.set.new.s.token.me.0 c.set-2.new.s.token.me.0 2 _ c.set-2.ensures.set one in
    clear_more c.set-2.new.s.token.me.0 c.set-3.new.s.token.me.0 3 _ c.set-3.ensures.set two

pub set-requires-4-clause-unset : goal.set-requires-4-clause-unset
set-requires-4-clause-unset c = λ b i e. let h = clear_3 c b i in omega arith

pub write_ints-requires-clause-clear : goal.write_ints-requires-clause-clear
write_ints-requires-clause-clear c =
    let one = clear_more c.args.s.now.token.me.0 c.set.new.s.token.me.0 1 _ c.set.ensures.set c.requires.clear in
    let two = clear_more c.set.new.s.token.me.0 c.set-2.new.s.token.me.0 2 _ c.set-2.ensures.set one in
    let three = clear_more c.set-2.new.s.token.me.0 c.set-3.new.s.token.me.0 3 _ c.set-3.ensures.set two in
    clear_more c.set-3.new.s.token.me.0 c.set-4.new.s.token.me.0 4 _ c.set-4.ensures.set three

pub write_accesses-requires-clause-fit : goal.write_accesses-requires-clause-fit
write_accesses-requires-clause-fit c = subst (λ (z : List Access). (k : ℕ) (a : Access) → get_elem? z k ≡ some a
    → IsAccess a × (a.hi ≤ c.args.t.now.layout.objects))
    (sym (ap (λ (z : CallTree). z.accesses) c.child.view_is) ∙ sym c.as_slice-accesses.ensures.value) c.requires.fits.accesses

pub returns-clause-written : goal.returns-clause-written
returns-clause-written c =
    let v0 = c.args.s.now.token.me.0 in let v1 = c.set.new.s.token.me.0 in let v2 = c.set-2.new.s.token.me.0 in
    let v3 = c.set-3.new.s.token.me.0 in let v4 = c.set-4.new.s.token.me.0 in let v5 = c.write_ints.new.s.token.me.0 in
    let v6 = c.write_accesses.new.s.token.me.0 in
    let f1 = filled_one v0 v1 1 _ c.set.ensures.set in let f2 = filled_one v1 v2 2 _ c.set-2.ensures.set in
    let f3 = filled_one v2 v3 3 _ c.set-3.ensures.set in let f4 = filled_one v3 v4 4 _ c.set-4.ensures.set in
    let f5 = c.write_ints.ensures.filled in let f6 = c.write_accesses.ensures.filled in
    let g5 = filled_then v4 v5 v6 f5 f6 in let g4 = filled_then v3 v4 v6 f4 g5 in let g3 = filled_then v2 v3 v6 f3 g4 in
    let g2 = filled_then v1 v2 v6 f2 g3 in
    let ints = c.as_slice-ints.ensures.value ∙ ap (λ (z : CallTree). z.ints) c.child.view_is in
    let accesses = c.as_slice-accesses.ensures.value ∙ ap (λ (z : CallTree). z.accesses) c.child.view_is in record {
      filled = filled_then v0 v1 v6 f1 g2;
      built = λ b parent_is number_is call_is.
          let task : c.child.inside.task ≡ b.call.task = ap (λ (z : CallTree). z.task) (c.child.view_is ∙ sym call_is) in
          let depth : c.child.inside.depth ≡ b.call.depth = ap (λ (z : CallTree). z.depth) (c.child.view_is ∙ sym call_is) in
          let long : c.child.inside.length ≡ b.call.length = ap (λ (z : CallTree). z.length) (c.child.view_is ∙ sym call_is) in
          let ints_is = ints ∙ sym (ap (λ (z : CallTree). z.ints) call_is) in
          let accesses_is = accesses ∙ sym (ap (λ (z : CallTree). z.accesses) call_is) in
          all_built b v6.region.built
          (g2.kept _ (set_so v0 v1 1 _ c.set.ensures.set _ (c.pack_head-head.ensures ∙ (λ i. packed_head (record {
            task = task i;
            depth = depth i;
            number = sym number_is i;
            ints = length (ints_is i);
            accesses = length (accesses_is i);
          })))))
          (g3.kept _ (set_so v1 v2 2 _ c.set-2.ensures.set _ (let e : c.from.result + 1 ≡ b.parent = (let d = c.from.ensures in omega arith) in e)))
          (g4.kept _ (set_so v2 v3 3 _ c.set-3.ensures.set _
          (c.pack_pair-extent.ensures ∙ (λ i. packed_pair (record { low = long i; high = 0 })))))
          (g5.kept _ (set_so v3 v4 4 _ c.set-4.ensures.set _ (c.from-2.ensures ∙ long)))
          (λ k n at. f6.kept _ (c.write_ints.ensures.ints k n (ap (λ z. get_elem? z k) ints_is ∙ at)))
          (λ k a at. c.write_accesses.ensures.accesses k a (ap (λ z. get_elem? z k) accesses_is ∙ at));
    }
