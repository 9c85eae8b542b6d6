-- How a simulated run begins.
use Rattle.std.proofs.Common.{◌≡◌, ℕ, zero, suc, List, [], length, Some, refl, sym, subst, arith, slice_get}
use Rattle.kt_prog.specs.Fits.{Fits, is_main}
use Rattle.kt_prog.specs.Objects.{inputs_of}
use Rattle.kt_prog.specs.declared.programs.Program.{Program}
use Rattle.kt_prog.proofs.LastWriter.{opened_length}
use Rattle.kt_tables.specs.Tables.{TaskRow, CoreState, count_indexes, opening_state, fresh_row}
use Rattle.kt_sim.specs.Simulated.{IsStill, AreQuiet, IsCalm}
use Rattle.kt_prog.specs.Calls.{main_call}

pub calm_opening : (p : Program) (input : List ℕ) (c : CoreState) → length input ≡ inputs_of p.families → c ≡ opening_state p input → IsCalm c
calm_opening p input c whole same =
    let main : (t : ℕ) (r : TaskRow) → slice_get (opening_state p input).table.tasks t ≡ Some r → fresh_row [] main_call ≡ r = alone in
    let calm : IsCalm (opening_state p input) = record {
      sound = record {
        calls = λ t r e. subst (λ (u : TaskRow). Fits p u.call) (main t r e) (is_main refl);
        full = opened_length p.families input whole;
      };
      still = λ t r e. subst (λ (u : TaskRow). IsStill u) (main t r e) (λ h. (refl, refl));
      quiet = λ t r e. subst (λ (u : TaskRow). AreQuiet u.loop.indexes) (main t r e) (λ i v f. cc);
      few = record { tasks = omega arith; indexes = omega arith };
    } in
    subst IsCalm (sym same) calm
  where
    alone : (t : ℕ) (r : TaskRow) → slice_get (opening_state p input).table.tasks t ≡ Some r → fresh_row [] main_call ≡ r
    alone zero r e = cc
    alone (suc t) r e = cc

pub counted_opening : (p : Program) (input : List ℕ) (c : CoreState) → c ≡ opening_state p input → count_indexes c.table.tasks ≡ 0
counted_opening p input c same = subst (λ (x : CoreState). count_indexes x.table.tasks ≡ 0) (sym same) refl
