-- Stores and folds alike.
use Rattle.std.proofs.Common.{ℕ, List}
use Rattle.kt_prog.specs.Calls.{Job}
use Rattle.kt_prog.specs.Script.{perform}
use Rattle.kt_prog.specs.declared.programs.Program.{Program}
use Rattle.kt_prog.specs.declared.runs.Operation.{Operation}
use Rattle.kt_body.specs.Doing.{CanDo, Followed}
use Rattle.kt_body.specs.Moves.{Can, RanWent}
use Rattle.kt_body.specs.Scenes.{deed_of, operation_of}
use Rattle.kt_body.specs.declared.ops.Went.{Went}
use Rattle.kt_body.specs.declared.writes.Write.{Write}
use Rattle.kt_body.specs.declared.writes.Write.TheVariants as W
use Rattle.kt_body.proofs.Steps.{can_store, can_fold, ran_store, ran_fold}

module _ {S : Type 0} (at : S → Program → Job → List ℕ → ℕ → Type 0) (goes : S → Operation → S → Type 0) (halted : S → Type 0) where
  pub can_write : (p : Program) (x : S) (w : Write) (object element v : ℕ) → Can at goes halted p x (perform object element (deed_of w v))
      → CanDo at halted x (λ a. operation_of w object element v)
  can_write p x W.Store object element v c = can_store p x object element v c
  can_write p x (W.Fold op) object element v c = can_fold p x object element op v c

  pub ran_write : (x y : S) (w : Write) (object element v : ℕ) (r : Went) → Followed at goes halted x (operation_of w object element v) y r
      → RanWent at goes halted x (perform object element (deed_of w v)) y r
  ran_write x y W.Store object element v r d = ran_store at goes halted x y object element v r d
  ran_write x y (W.Fold op) object element v r d = ran_fold at goes halted x y object element op v r d
