-- The counts of the generated jobs are within the limits; the law of all kinds.
use Rattle.std.proofs.Common.{◌≤◌, ℕ, ◌+◌, ◌*◌, arith}
use Rattle.std.proofs.lemmas.Nat.{mul-le}
use Rattle.kt_text.specs.declared.commands.Kind.{Kind}
use Rattle.kt_text.specs.declared.commands.Kind.TheVariants.{Mul, Walks, Stencil, Scan}
use Rattle.kt_gen.specs.Jobs.{IsSize}
use Rattle.kt_gen.specs.Texts.{rounds_of}
use Rattle.kt_gen_runs.specs.Completes.{GeneratedJobsComplete, KeepsLimits, KindCompletes}
use Rattle.kt_gen_runs.proofs.Products.{mul_completes}
use Rattle.kt_gen_runs.proofs.Scans.{scan_completes}
use Rattle.kt_gen_runs.proofs.Stencils.{stencil_completes}
use Rattle.kt_gen_runs.proofs.Walks.{four_at_most, walks_completes}

limits_kept : (kind : Kind) (size : ℕ) → IsSize kind size → KeepsLimits kind size
limits_kept Mul size h =
    let few : size ≤ 25 = h.1 in
    let cube : size * size * size ≤ 15625 = mul-le (size * size) size 625 25 (mul-le size size 25 25 few few) few in
    (omega (arith, cube), omega arith)
limits_kept Walks size h =
    let few : size ≤ 12 = h.1 in
    let square : size * size ≤ 144 = mul-le size size 12 12 few few in
    let cube : size * size * size ≤ 1728 = mul-le (size * size) size 144 12 square few in
    let some : rounds_of size ≤ 4 = four_at_most size few in
    let all : 2 * rounds_of size * (size * size + size * size * size) ≤ 14976 =
    mul-le (2 * rounds_of size) (size * size + size * size * size) 8 1872 (omega (arith, some)) (omega (arith, square, cube)) in
    (omega (arith, all), omega arith)
limits_kept Stencil size h =
    let few : size ≤ 1024 = h.1 in
    (omega (arith, few), omega arith)
limits_kept Scan size h =
    let few : size ≤ 1024 = h.1 in
    (omega (arith, few), omega (arith, few))

kind_completes : (kind : Kind) → KindCompletes kind
kind_completes Mul = mul_completes
kind_completes Walks = walks_completes
kind_completes Stencil = stencil_completes
kind_completes Scan = scan_completes

pub jobs_complete : GeneratedJobsComplete
jobs_complete kind = (kind_completes kind, limits_kept kind)
