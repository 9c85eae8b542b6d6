use Rattle.std.proofs.Common.{true, false, sym, ap, ◌∙◌}
use Rattle.kt_request.specs.Notes.{is_ready}
use Rattle.kt_request.proofs.Seeing.{saw_cut, saw_taken, ready_not}
use Rattle.kt_request.proofs.records.see_record.Goals as goal

pub returns-then-not-is_taken-clause-saw : goal.returns-then-not-is_taken-clause-saw
returns-then-not-is_taken-clause-saw c ns looked has last_is = saw_cut c.args.s.now.token.me.0 c.args.scan.now c.cut.new.self c.args.at
    c.args.state c.args.last c.requires.standing.0 c.requires.standing.1 (sym c.is_taken.ensures ∙ c.if-not-is_taken.true) ns looked has
    last_is c.cut.ensures.notes c.cut.ensures.frame

pub returns-in-Ready-clause-saw : goal.returns-in-Ready-clause-saw
returns-in-Ready-clause-saw c ns looked has last_is = saw_taken c.args.s.now.token.me.0 c.see_taken.new.s.token.me.0 c.args.scan.now
    c.begin_at.new.scan c.see_taken.new.scan c.args.at c.args.state c.args.last c.see_taken.result true c.requires.standing.0
    c.requires.standing.1 (ap is_ready c.in-Ready.is) (sym c.is_taken.ensures ∙ c.if-not-is_taken.false) ns has last_is
    c.begin_at.ensures.notes c.begin_at.ensures.frame (c.see_taken.ensures.noted ns looked)

pub returns-in_default : goal.returns-in_default
returns-in_default c = record {
  seat = c.see_taken.ensures.seat;
  room = record {
    objects = c.see_taken.ensures.room.objects ∙ c.begin_at.ensures.room.objects;
    entries = c.see_taken.ensures.room.entries ∙ c.begin_at.ensures.room.entries;
  };
  saw = λ ns looked has last_is. saw_taken c.args.s.now.token.me.0 c.see_taken.new.s.token.me.0 c.args.scan.now c.begin_at.new.scan
      c.see_taken.new.scan c.args.at c.args.state c.args.last c.see_taken.result false c.requires.standing.0 c.requires.standing.1
      (ready_not c.see_taken.result c.in_default.not-Ready) (sym c.is_taken.ensures ∙ c.if-not-is_taken.false) ns has last_is
      c.begin_at.ensures.notes c.begin_at.ensures.frame (c.see_taken.ensures.noted ns looked);
}
