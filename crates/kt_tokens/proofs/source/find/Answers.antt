use Rattle.std.proofs.Common.{sym}
use Rattle.kt_tokens.proofs.WordNames.{word_is_name}
use Rattle.kt_tokens.proofs.source.find.Goals as goal

pub tok-found-requires-clause-name : goal.tok-found-requires-clause-name
tok-found-requires-clause-name c =
    let e = rw c.requires.begun at c.in-Ok.ensures.token in
    word_is_name _ c.args.at c.in-Ok.token (sym e)
