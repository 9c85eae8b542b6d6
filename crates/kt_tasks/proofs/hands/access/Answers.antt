use Rattle.std.proofs.Common.{subst}
use Rattle.kt_words.specs.BitFields.{Unpacks}
use Rattle.kt_words.specs.Words.{IsAccess, packed_access}
use Rattle.kt_tasks.proofs.Fields.{access_there, get_below, no_access}
use Rattle.kt_tasks.proofs.hands.access.Goals as goal

pub unreachable-requires : goal.unreachable-requires
unreachable-requires c = let q = c.requires.there in let a = get_below q.0.berth.call.accesses c.args.number q.2 in
    no_access q.0.berth c.args.number c.field.result a.0 c.unpack_access.result (c.field.ensures.field.says q.0 q.1) a.1
    c.unpack_access.ensures c.in-None.is

pub returns-clause-access : goal.returns-clause-access
returns-clause-access c = λ m held less. let a = get_below m.berth.call.accesses c.args.number less in
    access_there m.berth c.args.number c.field.result a.0 c.in-Some.access (c.field.ensures.field.says m held) a.1
    (subst (Unpacks IsAccess packed_access c.field.result) c.in-Some.is c.unpack_access.ensures)
