use Rattle.std.proofs.Common.{◌∷◌, [], refl}
use Rattle.kt_print.specs.CanonicalText.{param_text}
use Rattle.kt_print.proofs.PrintedTexts.{listed_more}
use Rattle.kt_print.proofs.printing.declarations.push_params.Goals as goal

pub loop-param-preserved : goal.loop-param-preserved
unfolding lib.Utf8.encode
loop-param-preserved c = (
  listed_more param_text c.args.params.now c.param-item.result c.loop-param.param-index _ _ _ _ _ c.loop-param-test.true c.param-item.is c.in_ok-push_str.ensures.bytes
      c.in_ok-push_param.ensures c.loop-param.invariant.0,
  (44 ∷ 32 ∷ [], (refl, refl)),
)
