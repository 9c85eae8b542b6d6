use Rattle.std.proofs.Common.{◌≡◌, true, false, sym, ◌∙◌}
use Rattle.kt_request.proofs.Seeing.{seen_finished, seen_other}
use Rattle.kt_request.proofs.records.see_taken.Goals.{in-Finished, in_default}
use Rattle.kt_request.proofs.records.see_taken.Goals as goal

pub returns-then-matches-clause-noted : goal.returns-then-matches-clause-noted
returns-then-matches-clause-noted c ns looked = seen_finished c.args.s.now.token.me.0 c.args.scan.now c.see.new.self c.args.at
    c.args.state c.requires.standing.0 c.see.result ns c.see.ensures.notes looked (elim c.match-matches.branch [
      | in-Finished w ↦ w.in-Finished.is
      | in_default w ↦ (let z : true ≡ false = sym c.if-matches.true ∙ w.matches-is in absurd (cc z))
    ]) c.see.ensures.verdict c.see.ensures.frame

pub returns-clause-noted : goal.returns-clause-noted
returns-clause-noted c ns looked = seen_other c.args.s.now.token.me.0 c.args.scan.now c.see-2.new.self c.args.at c.args.state
    c.requires.standing.0 c.see-2.result ns c.see-2.ensures.notes c.accesses_of-accesses.new.s.token.me.0
    c.accesses_of-accesses.result.items c.as_slice.result.now c.as_slice.ensures.value
    (c.accesses_of-accesses.ensures.found _ ns looked) c.see-2.ensures.verdict c.see-2.ensures.frame
