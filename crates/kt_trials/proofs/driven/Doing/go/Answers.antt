-- The row goes on.
use Rattle.std.proofs.Common.{◌≡◌, ◌+◌, ◌++◌, sym, subst}
use Rattle.kt_prog.specs.Operations.{heard}
use Rattle.kt_trials.specs.Driven.{StandsAt}
use Rattle.kt_tables.specs.Tables.{CoreState}
use Rattle.kt_trials.proofs.Driving.{stands_after}
use Rattle.kt_trials.proofs.driven.Doing.go.Goals as goal

pub returns-in-Ok : goal.returns-in-Ok
returns-in-Ok c =
    let d = c.args.self.now in
    record {
      went = tt;
      stands = λ p job answers count s n.
          subst (λ (x : CoreState). StandsAt x d.task p job (answers ++ heard c.args.operation) (count + 1)) (sym c.in-Ok.ensures.done)
          (stands_after d.core d.task c.args.operation p job answers count c.requires.called s);
      running = c.requires.live;
    }
