use Rattle.std.proofs.Common.{arith, ◌-◌, [], ◌∙◌, ap, sym}
use Rattle.kt_words.specs.Places.{record_word}
use Rattle.kt_rule.specs.Records.{drawn_at}
use Rattle.kt_prog.specs.Objects.{elements_of}
use Rattle.kt_pool.specs.Seats.{setup_of}
use Rattle.kt_pool.proofs.Words.{words, total_is, in_front, main_in, made_so, opens_so, zeros_so}
use Rattle.kt_pool.proofs.openings.opening_words.Goals as goal

pub overflow_sub-total : goal.overflow_sub-total
overflow_sub-total c = let t = total_is c.args.layout.now in let e = c.total-total.ensures in omega arith

pub overflow_sub-total-2 : goal.overflow_sub-total-2
overflow_sub-total-2 c = let t = total_is c.args.layout.now in let e = c.total-total.ensures in omega arith

pub index_mut-requires : goal.index_mut-requires
index_mut-requires c =
    let l = c.args.layout.now in let t = total_is l in let e = c.total-total.ensures in let n = c.in_ok-resize.ensures.len in
    let at = c.tasks_drawn.ensures.value in let a = in_front l drawn_at tt in omega arith

pub index_mut-requires-2 : goal.index_mut-requires-2
index_mut-requires-2 c =
    let l = c.args.layout.now in let t = total_is l in let e = c.total-total.ensures in let n = c.in_ok-resize.ensures.len in
    let at = c.field.ensures.value in let a = in_front l (record_word 0 0) (main_in l [] c.requires.some) in omega arith

pub returns-clause-opening : goal.returns-clause-opening
returns-clause-opening c =
    let l = c.args.layout.now in let t = total_is l in let e = c.total-total.ensures in
    let xs = c.elements.result.now in
    let n = c.total-total.result - l.objects - l.elements in
    let long = c.elements.ensures.whole ∙ ap (λ z. elements_of z.program.families) c.in_ok-store.ensures in
    opens_so (setup_of c.args.program.now c.args.input.now l.workers) xs c.resize-2.new.self.items c.requires.some
    (c.elements.ensures.items ∙ ap (λ z. z.elements) c.in_ok-store.ensures) long
    (made_so l xs c.resize.new.self.items c.extend_from_slice.new.self.items c.resize-2.new.self.items n c.tasks_drawn.result c.field.result c.pack_state.result
    c.total-total.result _ (long ∙ ap (λ z. z.elements) (sym c.requires.layout)) e (omega arith)
    (zeros_so n _ _ c.resize.new.self.items c.in_ok-words.ensures.items c.in_ok-words.ensures.len c.in_ok-resize.ensures.items)
    c.tasks_drawn.ensures.value c.field.ensures.value c.pack_state.ensures c.in_ok-extend_from_slice.ensures.items (c.extend_from_slice.new.self.ok.0)
    c.in_ok-resize-2.ensures.items ∙ ap (λ z. words z xs) c.requires.layout)
