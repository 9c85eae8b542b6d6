-- The same derivation from equal tokens.
use Rattle.std.proofs.Common.{◌≡◌, List, sym, subst}
use Rattle.kt_tokens.specs.declared.tokens.Tok.{Tok}

pub at_front : {A : Type 0} (Reads : A → List Tok → List Tok → Type 0) {x : A} {ts front us : List Tok} → ts ≡ front → Reads x front us → Reads x ts us
at_front Reads {x} {ts} {front} {us} h r = subst (λ ts. Reads x ts us) (sym h) r
