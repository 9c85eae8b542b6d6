use Rattle.std.proofs.Common.{◌+◌, ◌<◌, length, rules}
use Rattle.kt_check.proofs.ByName.{task_found, task_missing, told}
use Rattle.kt_check.proofs.lookups.task_beyond.Goals as goal

pub overflow_add-result : goal.overflow_add-result
overflow_add-result c =
    let found = task_found c.args.tasks.now c.args.from c.args.name.now c.in-Some.at.now c.requires.from (told _ _ _ _ _ _ c.in-Mapped.is c.requires.told c.as_bytes.ensures.bytes c.in-Some.ensures.value) in
    let within : c.args.from + c.in-Some.at.now < length c.args.tasks.now = found.0 in
    search rules

pub returns-in-None-clause-passed : goal.returns-in-None-clause-passed
returns-in-None-clause-passed c = task_missing c.args.tasks.now c.args.from c.args.name.now (told _ _ _ _ _ _ c.in-Mapped.is c.requires.told c.as_bytes.ensures.bytes c.in-None.ensures.value)

pub returns-in-Some-clause-passed : goal.returns-in-Some-clause-passed
returns-in-Some-clause-passed c =
    let found = task_found c.args.tasks.now c.args.from c.args.name.now c.in-Some.at.now c.requires.from (told _ _ _ _ _ _ c.in-Mapped.is c.requires.told c.as_bytes.ensures.bytes c.in-Some.ensures.value) in
    found.1

pub returns-in-Some-clause-here : goal.returns-in-Some-clause-here
returns-in-Some-clause-here c =
    let found = task_found c.args.tasks.now c.args.from c.args.name.now c.in-Some.at.now c.requires.from (told _ _ _ _ _ _ c.in-Mapped.is c.requires.told c.as_bytes.ensures.bytes c.in-Some.ensures.value) in
    λ lt. found.2
