-- The canonical text of a program that was read is read again.
use Rattle.std.proofs.Common.{◌≡◌, ℕ, zero, suc, ◌+◌, ◌-◌, ◌<◌, ◌≤◌, Bool, true, false, List, [], ◌∷◌, ◌++◌, length, refl, ap, sym, subst, ◌∙◌, append_assoc, arith, nat_le}
use Rattle.std.specs.Prelude.{◌&&◌, ◌||◌, not}
use Rattle.kt_law.specs.declared.limits.TheConstants.{BRACKETS, EXPRESSION_TOKENS}
use Rattle.kt_prog.specs.declared.programs.Program.{Program}
use Rattle.kt_print.specs.CanonicalText.{canonical_text}
use Rattle.kt_tokens.specs.declared.gauge.Gauge.{Gauge}
use Rattle.kt_tokens.specs.declared.gauge.Reach.{Reach}
use Rattle.kt_tokens.specs.declared.gauge.Reach.TheVariants.{Apart, Forking, Within}
use Rattle.kt_tokens.specs.declared.gauge.Span.{Span}
use Rattle.kt_tokens.specs.declared.tokens.Mark.TheVariants as T
use Rattle.kt_tokens.specs.declared.tokens.Symbol.{Symbol}
use Rattle.kt_tokens.specs.declared.tokens.Symbol.TheVariants as S
use Rattle.kt_tokens.specs.declared.tokens.Tok.{Tok}
use Rattle.kt_tokens.specs.Gauge.{ends_span, gauge_after, gauge_behind, is_long, is_opening, is_over, reach_apart, reach_behind, reach_ended, reach_forking, start_gauge, open_behind}
use Rattle.kt_tokens.specs.Words.{toks_of}
use Rattle.kt_read.specs.Jobs.{IsJob, IsShallow}
use Rattle.kt_canon.specs.Laws.{HasText, IsJobAgain, IsTextAgain, IsWritten}
use Rattle.kt_read.specs.Programs.{ReadsProgram}
use Rattle.kt_read.specs.Texts.{IsText}
use Rattle.kt_read.proofs.Spans.{apart, behind}
use Rattle.kt_read.proofs.Depths.{AllFit, all_fit, one_fits, fits_shallow, over_is_deep}
use Rattle.kt_canon.proofs.Fits.{Fits, is_not_le, no_sign, or_both, over, too_long}
use Rattle.kt_canon.proofs.PlacelessTexts.{same_text}
use Rattle.kt_canon.proofs.PrintedPrograms.{Again, again}
use Rattle.kt_read.proofs.Fronts.{at_front}

-- ---- wide limits

-- the tokens so far of an expression
abbrev room : Reach → ℕ
room (Within span) = span.count
room _ = 0

open_few : (n : ℕ) (s : Symbol) → open_behind n s ≤ suc n
open_few n (S.Mark T.BraceOpen) = omega arith
open_few n (S.Mark T.ParenOpen) = omega arith
open_few n (S.Mark T.SquareOpen) = omega arith
open_few zero (S.Mark T.BraceClose) = omega arith
open_few zero (S.Mark T.ParenClose) = omega arith
open_few zero (S.Mark T.SquareClose) = omega arith
open_few (suc n) (S.Mark T.BraceClose) = omega arith
open_few (suc n) (S.Mark T.ParenClose) = omega arith
open_few (suc n) (S.Mark T.SquareClose) = omega arith
open_few n _ = omega arith

apart_few : (n : ℕ) (s : Symbol) → room (reach_apart n s) ≤ 0
apart_few n (S.Mark T.Becomes) = omega arith
apart_few n (S.Mark T.SquareOpen) = omega arith
apart_few n (S.Mark T.If) = omega arith
apart_few n (S.Mark T.In) = omega arith
apart_few n (S.Mark T.Fork) = omega arith
apart_few n _ = omega arith

forking_few : (n : ℕ) (s : Symbol) → room (reach_forking n s) ≤ 0
forking_few n (S.Mark T.ParenOpen) = omega arith
forking_few n _ = omega arith

ended_few : (f : Bool) (base count : ℕ) (s : Symbol) → room (reach_ended (record { in_fork = f; base = base; count = count }) s) ≤ 0
ended_few f base count (S.Mark T.Comma) = omega arith
ended_few f base count (S.Mark T.Dots) = omega arith
ended_few true base count (S.Mark T.Semicolon) = omega arith
ended_few false base count (S.Mark T.Semicolon) = omega arith
ended_few f base count _ = omega arith

within_few : (b : Bool) (n : ℕ) (span : Span) (s : Symbol) → ends_span n span s ≡ b → room (reach_behind n (Within span) s) ≤ suc span.count
within_few true n span s h = rw h (omega (arith, ended_few span.in_fork span.base span.count s))
within_few false n span s h = rw h (omega arith)

reach_few : (n : ℕ) (r : Reach) (s : Symbol) → room (reach_behind n r s) ≤ suc (room r)
reach_few n Apart s = omega (arith, apart_few n s)
reach_few n Forking s = omega (arith, forking_few n s)
reach_few n (Within span) s = within_few (ends_span n span s) n span s refl

not_long : (most n : ℕ) (r : Reach) (s : Symbol) → room r < most → too_long most n r s ≡ false
not_long most n (Within span) s h = no_sign (not (ends_span n span s)) (is_not_le most span.count h)
not_long most n Apart s h = refl
not_long most n Forking s h = refl

wide : (B E : ℕ) (g : Gauge) (toks : List Tok) → g.brackets + length toks < B → room g.reach + length toks < E → Fits B E g toks
wide B E g [] h k = tt
wide B E g (t ∷ toks) h k =
    let brackets : is_opening t.symbol && nat_le B g.brackets ≡ false = no_sign (is_opening t.symbol) (is_not_le B g.brackets (omega arith)) in (
      or_both (is_opening t.symbol && nat_le B g.brackets) (too_long E g.brackets g.reach t.symbol) brackets (not_long E g.brackets g.reach t.symbol (omega arith)),
      wide B E (behind g t.symbol) toks (omega (arith, open_few g.brackets t.symbol)) (omega (arith, reach_few g.brackets g.reach t.symbol)),
    )

text_read : (bytes : List ℕ) (p : Program) (from : ℕ) (behind : List ℕ) → IsText bytes p from → IsTextAgain p behind
text_read bytes p from behind t =
    let toks : List Tok = toks_of bytes t.tokens in
    let most : ℕ = suc (length toks) in
    (again most most bytes p from behind t (wide most most (apart 0) toks (omega arith) (omega arith))).text

pub canonical_is_text : (p : Program) (behind : List ℕ) → HasText p → IsTextAgain p behind
canonical_is_text p behind h =
    let a = text_read h.bytes h.program h.from behind h.text in
    record {
      program = a.program;
      text = subst (λ (text : List ℕ). IsText (text ++ behind) a.program (length text - 1)) (sym (same_text p h.program h.same)) a.text;
      same = h.same ∙ a.same;
    }

-- ---- the limits of jobs

same_long : (n : ℕ) (r : Reach) (s : Symbol) → too_long EXPRESSION_TOKENS n r s ≡ is_long n r s
same_long n (Within span) s = refl
same_long n Apart s = refl
same_long n Forking s = refl

same_over : (g : Gauge) (s : Symbol) → over BRACKETS EXPRESSION_TOKENS g s ≡ is_over g s
unfolding is_over
same_over g s = ap (λ (v : Bool). is_opening s && nat_le BRACKETS g.brackets || v) (same_long g.brackets g.reach s)

same_behind : (g : Gauge) (s : Symbol) → gauge_behind g s ≡ behind g s
unfolding gauge_behind
same_behind g s = refl

all_fit_from : (g : Gauge) (toks : List Tok) → Fits BRACKETS EXPRESSION_TOKENS g toks → AllFit g toks
all_fit_from g [] h = all_fit
all_fit_from g (t ∷ toks) h =
    one_fits (sym (same_over g t.symbol) ∙ h.0) (subst (λ (g : Gauge). AllFit g toks) (sym (same_behind g t.symbol)) (all_fit_from (behind g t.symbol) toks h.1))

fit_more : {g : Gauge} {front : List Tok} (t : Tok) → AllFit g front → is_over (gauge_after g front) t.symbol ≡ false → AllFit g (front ++ t ∷ [])
fit_more t all_fit h = one_fits h all_fit
fit_more t (one_fits k rest) h = one_fits k (fit_more t rest h)

after_more : (front : List Tok) (t : Tok) (g : Gauge) → gauge_after g (front ++ t ∷ []) ≡ gauge_behind (gauge_after g front) t.symbol
after_more [] t g = refl
after_more (u ∷ front) t g = after_more front t (gauge_behind g u.symbol)

not_true : (b : Bool) → (b ≡ true → ⊥) → b ≡ false
not_true true h = absurd (h refl)
not_true false h = refl

-- no token of a job is over
fits_behind : (p : Program) (all front rest : List Tok) → ReadsProgram p all [] → IsShallow all → all ≡ front ++ rest → AllFit start_gauge front →
    Fits BRACKETS EXPRESSION_TOKENS (gauge_after start_gauge front) rest
fits_behind p all front [] r shallow is f = tt
fits_behind p all front (t ∷ rest) r shallow is f =
    let g : Gauge = gauge_after start_gauge front in
    let reads : ReadsProgram p (front ++ t ∷ rest) [] = at_front ReadsProgram (sym is) r in
    let fit : is_over (gauge_after start_gauge front) t.symbol ≡ false =
    not_true (is_over (gauge_after start_gauge front) t.symbol) (λ h. shallow front rest t is (over_is_deep p front t rest reads f h)) in
    let more = fits_behind p all (front ++ t ∷ []) rest r shallow (is ∙ sym (append_assoc front (t ∷ []) rest)) (fit_more t f fit) in
    (same_over g t.symbol ∙ fit, subst (λ (g : Gauge). Fits BRACKETS EXPRESSION_TOKENS g rest) (after_more front t start_gauge ∙ same_behind g t.symbol) more)

pub job_again : (p : Program) (behind : List ℕ) → Again BRACKETS EXPRESSION_TOKENS p behind → IsJobAgain p behind
job_again p behind a = record {
  program = a.text.program;
  job = record {
    text = a.text.text;
    shallow = fits_shallow (all_fit_from (apart 0) (toks_of (canonical_text p ++ behind) a.text.text.tokens) a.fits);
  };
  same = a.text.same;
}

job_read : (bytes : List ℕ) (p : Program) (from : ℕ) (behind : List ℕ) → IsJob bytes p from → IsJobAgain p behind
job_read bytes p from behind job =
    let toks : List Tok = toks_of bytes job.text.tokens in
    let fits = fits_behind p toks [] toks job.text.derived job.shallow refl all_fit in
    job_again p behind (again BRACKETS EXPRESSION_TOKENS bytes p from behind job.text fits)

pub canonical_is_read : (p : Program) (behind : List ℕ) → IsWritten p → IsJobAgain p behind
canonical_is_read p behind h =
    let a = job_read h.bytes h.program h.from behind h.job in
    record {
      program = a.program;
      job = subst (λ (text : List ℕ). IsJob (text ++ behind) a.program (length text - 1)) (sym (same_text p h.program h.same)) a.job;
      same = h.same ∙ a.same;
    }
