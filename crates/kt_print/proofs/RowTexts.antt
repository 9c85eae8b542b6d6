-- One more line of a family, and the elements behind it.
use Rattle.std.proofs.Common.{◌≡◌, ℕ, zero, suc, ◌+◌, ◌*◌, List, [], ◌∷◌, ◌++◌, take, drop, refl, sym, ap, ◌∙◌, add-zero, add-one, arith}
use Rattle.std.specs.List.{flat_map, range_with_len}
use Rattle.std.proofs.lemmas.List.{flat_map_more, drop-drop}
use Rattle.kt_prog.specs.declared.programs.Family.{Family}
use Rattle.kt_print.specs.Rows.{line_text, member_row}

range_more : (a n : ℕ) → range_with_len a (suc n) ≡ range_with_len a n ++ (a + n) ∷ []
range_more a zero = rw (add-zero) refl
range_more a (suc n) =
    let step : (a + 1) + n ≡ a + suc n = omega arith in
    ap (λ (ks : List ℕ). a ∷ ks) (rw (← step) (range_more (a + 1) n))

-- the lines of the first n members
abbrev pub lines : Family → List ℕ → ℕ → List ℕ
lines f rows n = flat_map (λ k. line_text f.name k (member_row f rows k)) (range_with_len 0 n)

pub lines_more : (f : Family) (rows old mid new row rest : List ℕ) (k : ℕ) → mid ≡ old ++ lines f rows k → rest ≡ drop (k * f.elements) rows →
    row ≡ take f.elements rest → new ≡ mid ++ line_text f.name k row → new ≡ old ++ lines f rows (k + 1)
lines_more f rows old mid new row rest k so_far left taken grown =
    let line : ℕ → List ℕ = λ j. line_text f.name j (member_row f rows j) in
    let own : row ≡ member_row f rows k = taken ∙ ap (λ (xs : List ℕ). take f.elements xs) left in
    let this : new ≡ (old ++ flat_map line (range_with_len 0 k)) ++ line k =
    grown ∙ ap (λ (xs : List ℕ). mid ++ line_text f.name k xs) own ∙ ap (λ (xs : List ℕ). xs ++ line k) so_far in
    let next : range_with_len 0 (k + 1) ≡ range_with_len 0 k ++ k ∷ [] = rw (add-one) (range_more 0 k ∙ ap (λ (j : ℕ). range_with_len 0 k ++ j ∷ []) (omega arith)) in
    this ∙ flat_map_more line old (range_with_len 0 k) k ∙ ap (λ (ks : List ℕ). old ++ flat_map line ks) (sym next)

pub rest_more : (rows rest behind : List ℕ) (k width : ℕ) → rest ≡ drop (k * width) rows → behind ≡ drop width rest → behind ≡ drop ((k + 1) * width) rows
rest_more rows rest behind k width left dropped =
    let sum : k * width + width ≡ (k + 1) * width = omega arith in
    dropped ∙ ap (λ (xs : List ℕ). drop width xs) left ∙ drop-drop width (k * width) rows ∙ ap (λ (n : ℕ). drop n rows) sum
