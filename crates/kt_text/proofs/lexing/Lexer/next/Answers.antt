use Rattle.std.proofs.Common.{arith, sym, ◌∙◌}
use Rattle.kt_text.proofs.PlaceSteps.{place_of-small}
use Rattle.kt_text.proofs.Fits.{found, found_is_behind}
use Rattle.kt_text.proofs.lexing.Lexer.next.Goals as goal

pub overflow_add-stop : goal.overflow_add-stop
overflow_add-stop c =
    let f = found c.self.inside.text.now c.skip_gap-start.result.0 c.in-Ok.kind c.in-Ok.length c.skip_gap-start.ensures.within (sym c.lexeme.ensures ∙ c.in-Ok.is) in
    omega (arith, f.within, c.self.invariant.1)

pub overflow_cast-self : goal.overflow_cast-self
overflow_cast-self c =
    let f = found c.self.inside.text.now c.skip_gap-start.result.0 c.in-Ok.kind c.in-Ok.length c.skip_gap-start.ensures.within (sym c.lexeme.ensures ∙ c.in-Ok.is) in
    omega (arith, f.within, c.self.invariant.1)

pub overflow_add-self : goal.overflow_add-self
overflow_add-self c =
    let f = found c.self.inside.text.now c.skip_gap-start.result.0 c.in-Ok.kind c.in-Ok.length c.skip_gap-start.ensures.within (sym c.lexeme.ensures ∙ c.in-Ok.is) in
    let small = place_of-small c.self.inside.text.now c.skip_gap-start.result.0 in
    rw c.skip_gap-start.ensures.place (omega (arith, f.within, c.self.invariant.1, small.column))

pub invariant_of-self : goal.invariant_of-self
invariant_of-self c =
    let f = found c.self.inside.text.now c.skip_gap-start.result.0 c.in-Ok.kind c.in-Ok.length c.skip_gap-start.ensures.within (sym c.lexeme.ensures ∙ c.in-Ok.is) in
    (f.within, c.self.invariant.1, rw c.skip_gap-start.ensures.place (sym f.place))

pub returns-in-Ok-clause-within : goal.returns-in-Ok-clause-within
returns-in-Ok-clause-within c =
    let f = found c.self.inside.text.now c.skip_gap-start.result.0 c.in-Ok.kind c.in-Ok.length c.skip_gap-start.ensures.within (sym c.lexeme.ensures ∙ c.in-Ok.is) in
    let behind = found_is_behind c.self.inside.text.now c.self.inside.at c.skip_gap-start.result.0 c.in-Ok.kind c.in-Ok.length c.skip_gap-start.result.1
    c.skip_gap-start.ensures.start c.skip_gap-start.ensures.place c.skip_gap-start.ensures.within f in
    rw (← c.self.view_is) behind
