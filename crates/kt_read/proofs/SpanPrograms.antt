-- The gauge over declarations and programs.
use Rattle.std.proofs.Common.{ℕ, List, Bool, refl}
use Rattle.kt_law.specs.declared.modes.Mode.{Mode}
use Rattle.kt_prog.specs.declared.programs.Family.{Family}
use Rattle.kt_prog.specs.declared.programs.Main.{Main}
use Rattle.kt_prog.specs.declared.programs.Param.{Param}
use Rattle.kt_prog.specs.declared.programs.Program.{Program}
use Rattle.kt_prog.specs.declared.programs.Task.{Task}
use Rattle.kt_tokens.specs.declared.tokens.Tok.{Tok}
use Rattle.kt_read.specs.Statements.{op_word}
use Rattle.kt_read.specs.Programs.{ReadsSize, single, range, ReadsFamily, family, ReadsDirect, direct, cumulative, ReadsPostponed, postponed, postponed_cumulative, ReadsParam, int, one_direct, one_postponed, many_postponed, ReadsParams, one_param, more_params, ReadsMaybeParams, no_params, some_params, ReadsTask, task, loop, ReadsMain, main, ReadsProgram, data_word, one_family, one_task, one_main, ReadsMaybe, left_out, written}
use Rattle.kt_read.specs.Outermost.{OuterProgram, in_task, in_loop, in_main, behind_family, behind_task, behind_main}
use Rattle.kt_read.proofs.Spans.{apart, Cover, here, join, wider, free, ended, counted, no_sign}
use Rattle.kt_read.proofs.SpanStatements.{block_cover, opens_apart}

size_cover : {P : List Tok → List Tok → Type 0} {n : ℕ} {many : Bool} {m : ℕ} {ts us : List Tok} → ReadsSize many m ts us → Cover P (apart n) ts (apart n) us
size_cover single = here
size_cover range = free (counted refl (no_sign _ refl) (ended refl here))

maybe_cover : {P : List Tok → List Tok → Type 0} {n : ℕ} {word : List ℕ} {found : Bool} {ts us : List Tok} → ReadsMaybe word found ts us → Cover P (apart n) ts (apart n) us
maybe_cover left_out = here
maybe_cover written = free here

pub family_cover : {P : List Tok → List Tok → Type 0} {n : ℕ} {f : Family} {ts us : List Tok} → ReadsFamily f ts us → Cover P (apart n) ts (apart n) us
family_cover (family s i o) = free (free (join (size_cover s) (free (free (join (maybe_cover i) (join (maybe_cover o) (free here)))))))

direct_cover : {P : List Tok → List Tok → Type 0} {n : ℕ} {mode : Mode} {ts us : List Tok} → ReadsDirect mode ts us → Cover P (apart n) ts (apart n) us
direct_cover (direct w) = free here
direct_cover (cumulative (op_word w)) = free (free (free (free here)))

postponed_cover : {P : List Tok → List Tok → Type 0} {n : ℕ} {mode : Mode} {ts us : List Tok} → ReadsPostponed mode ts us → Cover P (apart n) ts (apart n) us
postponed_cover (postponed w) = free here
postponed_cover (postponed_cumulative (op_word w)) = free (free (free (free here)))

param_cover : {P : List Tok → List Tok → Type 0} {n : ℕ} {a : Param} {ts us : List Tok} → ReadsParam a ts us → Cover P (apart n) ts (apart n) us
param_cover int = free (free here)
param_cover (one_direct d) = join (direct_cover d) (free here)
param_cover (one_postponed d) = join (postponed_cover d) (free here)
param_cover (many_postponed d) = join (postponed_cover d) (free (free (ended refl here)))

params_cover : {P : List Tok → List Tok → Type 0} {n : ℕ} {params : List Param} {ts us : List Tok} → ReadsParams params ts us → Cover P (apart n) ts (apart n) us
params_cover (one_param a) = param_cover a
params_cover (more_params a rs) = join (param_cover a) (free (params_cover rs))

pub maybe_params_cover : {P : List Tok → List Tok → Type 0} {n : ℕ} {params : List Param} {ts us : List Tok} → ReadsMaybeParams params ts us → Cover P (apart n) ts (apart n) us
maybe_params_cover no_params = here
maybe_params_cover (some_params rs) = params_cover rs

pub task_cover : {t : Task} {ts us : List Tok} → ReadsTask t ts us → Cover (OuterProgram ts) (apart 0) ts (apart 0) us
task_cover (task ps b) = free (free (free (join (maybe_params_cover ps) (free (wider (λ xs ys o. in_task ps o) (block_cover 0 opens_apart b))))))
task_cover (loop ps b) =
    free (free (free (free (free (join (maybe_params_cover ps) (free (wider (λ xs ys o. in_loop ps o) (block_cover 0 opens_apart b))))))))

pub main_cover : {m : Main} {ts us : List Tok} → ReadsMain m ts us → Cover (OuterProgram ts) (apart 0) ts (apart 0) us
main_cover (main b) = free (wider (λ xs ys o. in_main o) (block_cover 0 opens_apart b))

pub program_cover : {program : Program} {ts us : List Tok} → ReadsProgram program ts us → Cover (OuterProgram ts) (apart 0) ts (apart 0) us
program_cover data_word = free here
program_cover (one_family f r) = join (family_cover f) (wider (λ xs ys o. behind_family f o) (program_cover r))
program_cover (one_task t r) = join (task_cover t) (wider (λ xs ys o. behind_task t o) (program_cover r))
program_cover (one_main m r) = join (main_cover m) (wider (λ xs ys o. behind_main m o) (program_cover r))
