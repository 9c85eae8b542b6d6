use Rattle.std.proofs.Common.{refl}
use Rattle.kt_check.proofs.Sighting.{known_append, names_block, names_lets, names_turn}
use Rattle.kt_check.proofs.names.+known_kind.Goals as goal

pub returns-in-Some-known_kind : goal.returns-in-Some-known_kind
returns-in-Some-known_kind t c = rw (c.in-Lets.is, names_lets, known_append, ← c.known_kind.ensures, c.in-Some-known_kind.is) refl

pub returns-in-None-known_kind : goal.returns-in-None-known_kind
returns-in-None-known_kind t c = rw (c.in-Lets.is, names_lets, known_append, ← c.known_kind.ensures, c.in-None-known_kind.is, c.let_kind_at.ensures) refl

pub returns-in-Some-known_kind-2 : goal.returns-in-Some-known_kind-2
returns-in-Some-known_kind-2 t c = rw (c.in-Block.is, names_block, known_append, ← c.known_kind-in-Block.ensures, c.in-Some-known_kind-2.is) refl

pub returns-in-None-known_kind-2 : goal.returns-in-None-known_kind-2
returns-in-None-known_kind-2 t c = rw (c.in-Block.is, names_block, known_append, ← c.known_kind-in-Block.ensures, c.in-None-known_kind-2.is, c.let_kind.ensures) refl

pub returns-in-Some-known_kind-3 : goal.returns-in-Some-known_kind-3
returns-in-Some-known_kind-3 t c = rw (c.in-Turn.is, names_turn, known_append, ← c.known_kind-in-Turn.ensures, c.in-Some-known_kind-3.is) refl

pub returns-in-None-known_kind-3 : goal.returns-in-None-known_kind-3
returns-in-None-known_kind-3 t c = rw (c.in-Turn.is, names_turn, known_append, ← c.known_kind-in-Turn.ensures, c.in-None-known_kind-3.is, c.turn_kind.ensures) refl
