use Rattle.std.proofs.Common.{◌-◌, length, get_or, arith}
use Rattle.kt_words.specs.declared.pairs.Pair.{Pair}
use Rattle.kt_request.proofs.Pieces.{next_at}
use Rattle.kt_request.proofs.Dealing.{held_in, answered_failed, answered_task, answered_piece, piece_in, deal_task, deal_piece, deal_failed}
use Rattle.kt_request.proofs.answering.answer_one.Goals as goal

abbrev blank : Pair
blank = record { low = 0; high = 0 }

pub answer_task-requires : goal.answer_task-requires
answer_task-requires c = let q = c.requires.answering in let an = q.2 in let room = c.if-i-given.true in record {
  seat = c.requires.seat;
  live = c.requires.live;
  inside = c.requires.held.3 c.args.i c.requires.held.0;
  held = held_in c.args.held.now c.args.given.now c.args.at c.args.pieces.now q.1 q.0 c.args.i c.args.s.now.token.me.0 an c.requires.held.0
      c.requires.held.1;
  promised = an.each c.args.i (omega arith) room;
}

pub answer_piece-requires-clause-held : goal.answer_piece-requires-clause-held
answer_piece-requires-clause-held c = let q = c.requires.answering in held_in c.args.held.now c.args.given.now c.args.at c.args.pieces.now
    q.1 q.0 c.args.i c.args.s.now.token.me.0 q.2 c.requires.held.0 c.requires.held.1

pub answer_piece-requires-clause-piece : goal.answer_piece-requires-clause-piece
answer_piece-requires-clause-piece c = let q = c.requires.answering in
    piece_in c.args.held.now c.args.given.now c.args.at c.args.pieces.now q.1 q.0 c.args.i c.args.s.now.token.me.0 q.2 c.requires.held.0
    c.requires.held.1 (get_or c.args.pieces.now (c.args.i - length c.args.given.now) blank) c.if-i-given.false
    (next_at blank c.args.pieces.now c.args.i (length c.args.given.now) c.if-i-given.false c.if-n-pieces.true)

pub answer_failed-requires : goal.answer_failed-requires
answer_failed-requires c = let q = c.requires.answering in record {
  seat = c.requires.seat;
  live = c.requires.live;
  inside = c.requires.held.3 c.args.i c.requires.held.0;
  held = held_in c.args.held.now c.args.given.now c.args.at c.args.pieces.now q.1 q.0 c.args.i c.args.s.now.token.me.0 q.2 c.requires.held.0
      c.requires.held.1;
}

pub returns-then-i-given-clause-answering : goal.returns-then-i-given-clause-answering
returns-then-i-given-clause-answering c v0 others an = answered_task c.args.held.now c.args.given.now c.args.at c.args.pieces.now others v0 c.args.i
    c.args.s.now.token.me.0 an c.requires.held.0 c.requires.held.1 c.answer_task.new.s.token.me.0 c.if-i-given.true c.requires.held.2
    c.answer_task.ensures.answered

pub returns-then-i-given-clause-answer : goal.returns-then-i-given-clause-answer
returns-then-i-given-clause-answer c = let q = c.requires.answering in deal_task c.args.held.now c.args.given.now c.args.at c.args.pieces.now q.1
    q.0 c.args.i c.args.s.now.token.me.0 q.2 c.requires.held.0 c.requires.held.1 c.if-i-given.true

pub returns-then-n-pieces-clause-answering : goal.returns-then-n-pieces-clause-answering
returns-then-n-pieces-clause-answering c v0 others an = answered_piece c.args.held.now c.args.given.now c.args.at c.args.pieces.now others v0
    c.args.i c.args.s.now.token.me.0 an c.requires.held.0 c.requires.held.1
    (get_or c.args.pieces.now (c.args.i - length c.args.given.now) blank) c.if-i-given.false
    (next_at blank c.args.pieces.now c.args.i (length c.args.given.now) c.if-i-given.false c.if-n-pieces.true)
    c.answer_piece.new.s.token.me.0 c.answer_piece.ensures.answered

pub returns-then-n-pieces-clause-answer : goal.returns-then-n-pieces-clause-answer
returns-then-n-pieces-clause-answer c = let q = c.requires.answering in deal_piece c.args.held.now c.args.given.now c.args.at c.args.pieces.now
    q.1 q.0 c.args.i c.args.s.now.token.me.0 q.2 c.requires.held.0 c.requires.held.1
    (get_or c.args.pieces.now (c.args.i - length c.args.given.now) blank) c.if-i-given.false
    (next_at blank c.args.pieces.now c.args.i (length c.args.given.now) c.if-i-given.false c.if-n-pieces.true)

pub returns-clause-answering : goal.returns-clause-answering
returns-clause-answering c v0 others an = let a = c.if-i-given.false in let b = c.if-n-pieces.false in
    answered_failed c.args.held.now c.args.given.now c.args.at c.args.pieces.now others v0 c.args.i c.args.s.now.token.me.0 an
    c.requires.held.0 c.requires.held.1 c.answer_failed.new.s.token.me.0 (omega (arith, a, b)) c.answer_failed.ensures.answered

pub returns-clause-answer : goal.returns-clause-answer
returns-clause-answer c = let q = c.requires.answering in let a = c.if-i-given.false in let b = c.if-n-pieces.false in
    deal_failed c.args.held.now c.args.given.now c.args.at c.args.pieces.now q.1 q.0 c.args.i c.args.s.now.token.me.0 q.2
    c.requires.held.0 c.requires.held.1 (omega (arith, a, b))
