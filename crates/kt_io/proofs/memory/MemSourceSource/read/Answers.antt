use Rattle.std.proofs.Common.{arith, ◌≡◌, ◌≤◌, ◌+◌, ◌-◌, List, length, drop, take, ℕ, ◌++◌, ap, sym, ◌∙◌, take_at, length-take, length-drop, take-append-drop}
use Rattle.std.proofs.lemmas.List.{drop-drop, drop_all}
use Rattle.kt_io.proofs.memory.MemSourceSource.read.Goals as goal

-- what is left is what was copied and the rest
split : (at n : ℕ) (bytes got behind : List ℕ) → got ≡ take n (drop at bytes) → n ≤ length bytes - at → drop at bytes ≡ take n (got ++ behind) ++ drop (at + n) bytes
split at n bytes got behind is fits =
    let size : length got ≡ n = ap length is ∙ length-take n (drop at bytes) ∙ omega (arith, length-drop at bytes) in
    sym (ap (λ l. l ++ drop (at + n) bytes) (take_at got behind n size ∙ is) ∙ ap (λ l. take n (drop at bytes) ++ l) (sym (drop-drop n at bytes)) ∙ take-append-drop n (drop at bytes))

pub returns-clause-bytes : goal.returns-clause-bytes
returns-clause-bytes c =
    let at = c.self.inside.given in
    let n = c.min-count.result in
    let bytes = c.self.inside.bytes.items in
    let left : c.args.self.now.left ≡ drop at bytes = ap (λ s. s.left) (sym c.self.view_is) in
    let count : (at + n) - at ≡ n = omega arith in
    let fits : n ≤ length bytes - at = omega arith in
    let got : c.copy_from_slice.new.self ≡ take n (drop at bytes) =
    c.copy_from_slice.ensures.after ∙ ap (λ k. take k (drop at c.deref-2.result.now)) count ∙ ap (λ l. take n (drop at l)) c.deref-2.ensures.value in
    (left ∙ split at n bytes _ _ got fits, λ none. drop_all (at + n) bytes (omega (arith, none)))
