-- What a call leaves of a seat: its setup, how many it stands for, and its worker.
use Rattle.std.proofs.Common.{◌≡◌, ℕ, [], List, ◌++◌, ◌∷◌, inl, inr, refl, sym, ap, ◌∙◌, subst}
use Rattle.kt_law.specs.Acts.{Deed}
use Rattle.kt_prog.specs.Calls.{CallTree}
use Rattle.kt_runs.specs.ByPath.{Path}
use Rattle.kt_rule.specs.declared.views.Spot.{Spot}
use Rattle.kt_rule.specs.declared.views.View.{View}
use Rattle.kt_rule.specs.Lists.{In}
use Rattle.kt_rule.proofs.Sums.{in_right}
use Rattle.kt_steps.specs.Told.{IsMine}
use Rattle.kt_loops.specs.Operations.{DidOne, IsNextOn}
use Rattle.kt_tasks.specs.Claims.{Claimed}
use Rattle.kt_tasks.specs.Publications.{HasPublished, MayPublish}
use Rattle.kt_tasks.specs.declared.states.Claim.{Claim}
use Rattle.kt_tasks.specs.declared.states.Claim.TheVariants as C
use Rattle.kt_tasks.specs.declared.publications.Published.{Published}
use Rattle.kt_tasks.specs.declared.publications.Published.TheVariants as P
use Rattle.kt_request.specs.Reports.{ServedOnly}
use Rattle.kt_calls.specs.Serving.{Serves}

pub record IsSame (v w : View) : Type 0 where
  pub setup : w.setup ≡ v.setup
  pub parts : w.parts ≡ v.parts
  pub worker : w.worker ≡ v.worker

-- what is as it was of one view is so of a view that equals it
pub same_as : (v w x : View) → w ≡ x → IsSame v x → IsSame v w
same_as v w x e s = subst (IsSame v) (sym e) s

pub did_same : (v w : View) (n element : ℕ) (d : Deed) → IsNextOn v element d → DidOne v n w → IsSame v w
did_same v w n element d (inl q) h =
    same_as v w _ (h.0 q.setup q.told q.done q.head q.rest q.taken q.over q.act q.more q.next) (record { setup = refl; parts = refl; worker = refl })
did_same v w n element d (inr (none, q)) h =
    same_as v w _ (h.1 none q.setup q.told q.head q.rest q.runs q.act q.more q.next) (record { setup = refl; parts = refl; worker = refl })

-- what a leader has served, where it held nothing before
pub serves : (v w : View) → v.tasks.promised ≡ [] → ServedOnly v w → Serves v w
serves v w none s = record {
  same = s.same ∙ (λ i. record v {
    seen = record v.seen { notes = w.seen.notes; known = w.seen.known };
    tasks = record v.tasks { claimed = w.tasks.claimed; promised = sym none i };
    desk = sym (ap (λ (y : View). y.desk) s.same) i;
    loops = record v.loops { sight = w.loops.sight };
  });
  free = ap (λ (y : View). y.desk.free) s.same;
  leads = ap (λ (y : View). y.desk.leads) s.same;
  known = λ p i. subst (In p) (sym s.extends.known.1) (in_right s.extends.known.0 v.seen.known p i);
}

pub claimed_same : (v w : View) (at : ℕ) (c : Claim) (m : Spot) → IsMine v at m → Claimed v at w c → IsSame v w
claimed_same v w at C.Won m mine h = let e = h m mine in
    record { setup = ap (λ (y : View). y.setup) e; parts = ap (λ (y : View). y.parts) e; worker = ap (λ (y : View). y.worker) e }
claimed_same v w at (C.Stolen stand) m mine h = let e = (h.2 m mine).1 in
    record { setup = ap (λ (y : View). y.setup) e; parts = ap (λ (y : View). y.parts) e; worker = ap (λ (y : View). y.worker) e }

pub published_same : (v w : View) (parent at frame fork : ℕ) (child : CallTree) (p : Published) → MayPublish v parent at frame fork child
    → HasPublished v parent at frame fork child w p → IsSame v w
published_same v w parent at frame fork child (P.Published number) may h = let e = h.0 may.head may.rest may.runs in
    record { setup = ap (λ (y : View). y.setup) e; parts = ap (λ (y : View). y.parts) e; worker = ap (λ (y : View). y.worker) e }
published_same v w parent at frame fork child (P.Limit count) may h = let e = h.0 may.head may.rest may.runs in
    record { setup = ap (λ (y : View). y.setup) e; parts = ap (λ (y : View). y.parts) e; worker = ap (λ (y : View). y.worker) e }
