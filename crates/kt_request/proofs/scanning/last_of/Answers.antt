use Rattle.std.proofs.Common.{Bool, cond, sym, ap, ◌∙◌}
use Rattle.kt_words.specs.Words.{packed_state}
use Rattle.kt_request.proofs.Words.{empty_fits, empty_packed}
use Rattle.kt_request.proofs.scanning.last_of.Goals as goal

pub returns-then-is_taken : goal.returns-then-is_taken
returns-then-is_taken c = record {
  fits = c.requires.fits.1;
  word = sym (ap (λ (b : Bool). cond b (packed_state c.args.state) 0) (sym c.is_taken.ensures ∙ c.if-is_taken.true));
}

pub returns-else-is_taken : goal.returns-else-is_taken
returns-else-is_taken c = record {
  fits = empty_fits;
  word = empty_packed ∙ sym (ap (λ (b : Bool). cond b (packed_state c.args.state) 0) (sym c.is_taken.ensures ∙ c.if-is_taken.false));
}
