use Rattle.std.proofs.Common.{subst, sym, rules}
use Rattle.std.specs.Str.{IsAscii}
use Rattle.std.proofs.lemmas.Str.{IsUtf8-from_ascii}
use Rattle.kt_prog.proofs.names.Name.as_str.Goals as goal

pub unwrap-requires : goal.unwrap-requires
unwrap-requires c =
    let text = IsUtf8-from_ascii _ (subst IsAscii (sym c.as_bytes.ensures.bytes) c.as_bytes.ensures.name.ascii) in
    search rules
