use Rattle.std.proofs.Common.{◌<◌, length, rules, sym}
use Rattle.kt_check.proofs.ByName.{family_found, none_family, told}
use Rattle.kt_check.proofs.lookups.family_kind_beyond.Goals as goal

pub offset_bounds-families-at : goal.offset_bounds-families-at
offset_bounds-families-at c =
    let found = family_found c.args.families.now c.args.name.now c.in-Some.at.now (told _ _ _ _ _ _ c.in-Mapped.is c.requires c.as_bytes.ensures.bytes c.in-Some.ensures.value) in
    let within : c.in-Some.at.now < length c.args.families.now = found.0 in
    search rules

pub bounds-families-at : goal.bounds-families-at
bounds-families-at c =
    let found = family_found c.args.families.now c.args.name.now c.in-Some.at.now (told _ _ _ _ _ _ c.in-Mapped.is c.requires c.as_bytes.ensures.bytes c.in-Some.ensures.value) in
    found.0

pub returns-in-None : goal.returns-in-None
returns-in-None c = sym (none_family c.args.families.now 0 c.args.name.now (told _ _ _ _ _ _ c.in-Mapped.is c.requires c.as_bytes.ensures.bytes c.in-None.ensures.value))

pub returns-in-Some : goal.returns-in-Some
returns-in-Some c =
    let found = family_found c.args.families.now c.args.name.now c.in-Some.at.now (told _ _ _ _ _ _ c.in-Mapped.is c.requires c.as_bytes.ensures.bytes c.in-Some.ensures.value) in
    rw c.kind_of_family.ensures (sym (found.1 c.index-families-at.result c.index-families-at.is))
