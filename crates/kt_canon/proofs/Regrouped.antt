-- Texts grouped in another way.
use Rattle.std.proofs.Common.{◌≡◌, ℕ, List, [], ◌∷◌, ◌++◌, length, take, refl, ap, append_assoc}
use Rattle.std.proofs.lemmas.List.{append-nil}

pub take_front : (front text : List ℕ) → take (length front) (front ++ text) ≡ front
take_front [] text = refl
take_front (b ∷ front) text = ap (λ bs. b ∷ bs) (take_front front text)

pub one_text : (a z : List ℕ) → a ++ z ≡ (a ++ []) ++ z
one_text a z = rw (append-nil a) refl

pub three_parts : (a b c z : List ℕ) → a ++ (b ++ (c ++ z)) ≡ (a ++ (b ++ c)) ++ z
three_parts a b c z = simp append_assoc refl

pub three_of : (a b c l z : List ℕ) → l ≡ b ++ c → a ++ (b ++ (c ++ z)) ≡ (a ++ l) ++ z
three_of a b c l z h = rw h (simp append_assoc refl)

pub four_parts : (a b c d z : List ℕ) → a ++ (b ++ (c ++ (d ++ z))) ≡ (a ++ (b ++ (c ++ d))) ++ z
four_parts a b c d z = simp append_assoc refl
