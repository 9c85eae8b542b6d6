use Rattle.std.proofs.lemmas.Result.{err_from_is_err_and}
use Rattle.std.proofs.Common.{codes}
use Rattle.kt_read.specs.DeclarationParts.{not_square, not_word}
use Rattle.kt_read.proofs.DeclarationSteps.{family_at, family_elements_end, family_end, family_here, family_input_end, family_name_end, family_of_end, family_output_end, family_size_end, input_follows, output_follows, size_follows}
use Rattle.kt_read.proofs.Completing.{done_completes}
use Rattle.kt_read.proofs.Still.{done, fails, fails_any, next, next_any}
use Rattle.kt_read.proofs.reader.declarations.family.Goals as goal

pub returns-in_err-expect : goal.returns-in_err-expect
returns-in_err-expect c =
    let s0 = family_here _ in
    let p = err_from_is_err_and c.from_residual.result c.from_residual.ensures.1 in
    rw (p.1, p.2) (fails_any _ _ s0 c.in_err-expect.ensures (λ _. family_name_end))

pub returns-in_err-name : goal.returns-in_err-name
returns-in_err-name c =
    let s0 = family_here _ in
    let s1 = next_any s0 c.in_ok-expect.ensures in
    let p = err_from_is_err_and c.from_residual-in_err-name.result c.from_residual-in_err-name.ensures.1 in
    rw (p.1, p.2) (fails_any _ _ s1 c.in_err-name.ensures family_size_end)

pub returns-in_err-many : goal.returns-in_err-many
returns-in_err-many c =
    let s0 = family_here _ in
    let s1 = next_any s0 c.in_ok-expect.ensures in
    let s2 = next_any s1 c.in_ok-name.ensures in
    let p = err_from_is_err_and c.from_residual-in_err-many.result c.from_residual-in_err-many.ensures.1 in
    rw (p.1, p.2) (fails not_square _ _ s2 c.in_err-many.ensures (λ x a vs us k h. size_follows k.2) (λ size. family_of_end (c.in_ok-name.name, c.in_ok-name.place) size))

pub returns-in_err-word : goal.returns-in_err-word
returns-in_err-word c =
    let s0 = family_here _ in
    let s1 = next_any s0 c.in_ok-expect.ensures in
    let s2 = next_any s1 c.in_ok-name.ensures in
    let s3 = next s2 c.in_ok-many.ensures (λ x a vs us k h. size_follows k.2) in
    let p = err_from_is_err_and c.from_residual-in_err-word.result c.from_residual-in_err-word.ensures.1 in
    rw (p.1, p.2) (fails_any _ _ s3 c.in_err-word.ensures (λ _. family_elements_end (c.in_ok-name.name, c.in_ok-name.place) (c.in_ok-many.many, c.in_ok-many.members)))

pub returns-in_err-elements : goal.returns-in_err-elements
returns-in_err-elements c =
    let s0 = family_here _ in
    let s1 = next_any s0 c.in_ok-expect.ensures in
    let s2 = next_any s1 c.in_ok-name.ensures in
    let s3 = next s2 c.in_ok-many.ensures (λ x a vs us k h. size_follows k.2) in
    let s4 = next_any s3 c.in_ok-word.ensures in
    let p = err_from_is_err_and c.from_residual-in_err-elements.result c.from_residual-in_err-elements.ensures.1 in
    rw (p.1, p.2) (fails_any _ _ s4 c.in_err-elements.ensures (λ elements. family_input_end (c.in_ok-name.name, c.in_ok-name.place) (c.in_ok-many.many, c.in_ok-many.members) elements))

pub returns-in_err-input : goal.returns-in_err-input
returns-in_err-input c =
    let s0 = family_here _ in
    let s1 = next_any s0 c.in_ok-expect.ensures in
    let s2 = next_any s1 c.in_ok-name.ensures in
    let s3 = next s2 c.in_ok-many.ensures (λ x a vs us k h. size_follows k.2) in
    let s4 = next_any s3 c.in_ok-word.ensures in
    let s5 = next_any s4 c.in_ok-elements.ensures in
    let p = err_from_is_err_and c.from_residual-in_err-input.result c.from_residual-in_err-input.ensures.1 in
    rw (p.1, p.2) (fails (not_word (codes "input")) _ _ s5 c.in_err-input.ensures (λ x a vs us k h. input_follows k.2 k.3.2) (λ input. family_output_end (c.in_ok-name.name, c.in_ok-name.place) (c.in_ok-many.many, c.in_ok-many.members) c.in_ok-elements.elements input))

pub returns-in_err-output : goal.returns-in_err-output
returns-in_err-output c =
    let s0 = family_here _ in
    let s1 = next_any s0 c.in_ok-expect.ensures in
    let s2 = next_any s1 c.in_ok-name.ensures in
    let s3 = next s2 c.in_ok-many.ensures (λ x a vs us k h. size_follows k.2) in
    let s4 = next_any s3 c.in_ok-word.ensures in
    let s5 = next_any s4 c.in_ok-elements.ensures in
    let s6 = next s5 c.in_ok-input.ensures (λ x a vs us k h. input_follows k.2 k.3.2) in
    let p = err_from_is_err_and c.from_residual-in_err-output.result c.from_residual-in_err-output.ensures.1 in
    rw (p.1, p.2) (fails (not_word (codes "output")) _ _ s6 c.in_err-output.ensures (λ x a vs us k h. output_follows k.2) (λ output. family_end (c.in_ok-name.name, c.in_ok-name.place) (c.in_ok-many.many, c.in_ok-many.members) c.in_ok-elements.elements c.in_ok-input.input output))

pub returns-in_err-expect-2 : goal.returns-in_err-expect-2
returns-in_err-expect-2 c =
    let s0 = family_here _ in
    let s1 = next_any s0 c.in_ok-expect.ensures in
    let s2 = next_any s1 c.in_ok-name.ensures in
    let s3 = next s2 c.in_ok-many.ensures (λ x a vs us k h. size_follows k.2) in
    let s4 = next_any s3 c.in_ok-word.ensures in
    let s5 = next_any s4 c.in_ok-elements.ensures in
    let s6 = next s5 c.in_ok-input.ensures (λ x a vs us k h. input_follows k.2 k.3.2) in
    let s7 = next s6 c.in_ok-output.ensures (λ x a vs us k h. output_follows k.2) in
    let p = err_from_is_err_and c.from_residual-in_err-expect-2.result c.from_residual-in_err-expect-2.ensures.1 in
    rw (p.1, p.2) (fails_any _ _ s7 c.in_err-expect-2.ensures (λ _. done_completes (family_at (c.in_ok-name.name, c.in_ok-name.place) (c.in_ok-many.many, c.in_ok-many.members) c.in_ok-elements.elements c.in_ok-input.input c.in_ok-output.output)))

pub returns : goal.returns
returns c =
    let s0 = family_here _ in
    let s1 = next_any s0 c.in_ok-expect.ensures in
    let s2 = next_any s1 c.in_ok-name.ensures in
    let s3 = next s2 c.in_ok-many.ensures (λ x a vs us k h. size_follows k.2) in
    let s4 = next_any s3 c.in_ok-word.ensures in
    let s5 = next_any s4 c.in_ok-elements.ensures in
    let s6 = next s5 c.in_ok-input.ensures (λ x a vs us k h. input_follows k.2 k.3.2) in
    let s7 = next s6 c.in_ok-output.ensures (λ x a vs us k h. output_follows k.2) in
    let s8 = next_any s7 c.in_ok-expect-2.ensures in
    done s8
