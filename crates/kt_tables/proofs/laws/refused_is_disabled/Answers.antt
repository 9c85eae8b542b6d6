use Rattle.kt_tables.proofs.TableTests.{refused_is_disabled}
use Rattle.kt_tables.proofs.laws.refused_is_disabled.Goals as goal

pub returns : goal.returns
returns c = refused_is_disabled
