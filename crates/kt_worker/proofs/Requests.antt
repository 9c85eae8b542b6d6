-- What comes of asking.
use Rattle.std.proofs.Common.{◌≡◌, ℕ, true, false, List, [], ◌∷◌, refl, sym, ap, ◌∙◌, subst}
use Rattle.kt_runs.specs.ByPath.{Path}
use Rattle.kt_words.specs.Words.{packed_post, packed_pair}
use Rattle.kt_words.specs.declared.pairs.Pair.{Pair}
use Rattle.kt_words.specs.declared.posts.Post.{Post}
use Rattle.kt_words.specs.declared.posts.Post.TheVariants as P
use Rattle.kt_rule.specs.declared.views.Spot.{Spot}
use Rattle.kt_rule.specs.declared.views.Share.{Share}
use Rattle.kt_rule.specs.declared.views.View.{View}
use Rattle.kt_rule.specs.Lists.{In}
use Rattle.kt_posts.specs.Answered.{Settled}
use Rattle.kt_posts.specs.Desks.{finds_busy, freed, gets_piece, leads_now, pair_of, posts, sees, takes_piece, takes_task}
use Rattle.kt_calls.specs.Ranges.{IsOfCrew, IsRecord, IsWorker}
use Rattle.kt_calls.specs.Serving.{Serves}
use Rattle.kt_posts.specs.declared.answers.Answer.{Answer}
use Rattle.kt_posts.specs.declared.answers.Answer.TheVariants as A
use Rattle.kt_worker.specs.Asking.{Asks, IsAnswered, IsIdle, Learnt, Tried}
use Rattle.kt_worker.proofs.Stands.{crew_same, record_same}

-- what may be otherwise, taken from another view
abbrev learns : View → View → View
learns v x = record v {
  tasks = record v.tasks { claimed = x.tasks.claimed; given = x.tasks.given };
  seen = record v.seen { known = x.seen.known; notes = x.seen.notes };
  desk = x.desk;
  loops = record v.loops { pieces = x.loops.pieces; sight = x.loops.sight };
}

-- nothing else is otherwise in this view
learnt_of : (v w x : View) → w ≡ x → x ≡ learns v x → x.seen.known ≡ v.seen.known → Learnt v w
learnt_of v w x same only known = record {
  same = same ∙ only ∙ ap (learns v) (sym same);
  known = λ p i. subst (λ (ps : List Path). In p ps) (sym (ap (λ (y : View). y.seen.known) same ∙ known)) i;
}

pub learnt_same : (v : View) → Learnt v v
learnt_same v = record { same = refl; known = λ p i. i }

pub learnt_both : (v w x : View) → Learnt v w → Learnt w x → Learnt v x
learnt_both v w x f g = record {
  same = g.same ∙ ap (λ (y : View). learns y x) f.same;
  known = λ p i. g.known p (f.known p i);
}

pub posted : (v w : View) (victim : ℕ) → IsIdle v → w ≡ posts v victim → Asks v w
posted v w victim idle same = record {
  learnt = learnt_of v w (posts v victim) same refl refl;
  given = ap (λ (y : View). y.tasks.given) same;
  pieces = ap (λ (y : View). y.loops.pieces) same;
  free = ap (λ (y : View). y.desk.free) same;
  leads = ap (λ (y : View). y.desk.leads) same ∙ idle.leads;
}

-- a leader that has served
pub led : (v w x : View) (victim : ℕ) → v.desk.free ≡ false → w ≡ leads_now v victim → Serves w x → Asks v x
led v w x victim free won s =
    let first : Learnt v w = learnt_of v w (leads_now v victim) won refl refl in
    let given : x.tasks.given ≡ w.tasks.given = ap (λ (y : View). y.tasks.given) s.same in
    let pieces : x.loops.pieces ≡ w.loops.pieces = ap (λ (y : View). y.loops.pieces) s.same in
    let then_ : Learnt w x = record {
      same = s.same ∙ (λ i. record w {
        tasks = record w.tasks { claimed = x.tasks.claimed; given = sym given i };
        seen = record w.seen { known = x.seen.known; notes = x.seen.notes };
        desk = x.desk;
        loops = record w.loops { pieces = sym pieces i; sight = x.loops.sight };
      });
      known = s.known;
    } in
    record {
      learnt = learnt_both v w x first then_;
      given = given ∙ ap (λ (y : View). y.tasks.given) won;
      pieces = pieces ∙ ap (λ (y : View). y.loops.pieces) won;
      free = s.free ∙ ap (λ (y : View). y.desk.free) won ∙ free;
      leads = s.leads;
    }

pub not_led : (v w : View) (victim word : ℕ) → v.desk.free ≡ false → v.desk.leads ≡ false → w ≡ finds_busy v victim word → Asks v w
not_led v w victim word free leads same = record {
  learnt = learnt_of v w (finds_busy v victim word) same refl refl;
  given = ap (λ (y : View). y.tasks.given) same;
  pieces = ap (λ (y : View). y.loops.pieces) same;
  free = ap (λ (y : View). y.desk.free) same ∙ free;
  leads = ap (λ (y : View). y.desk.leads) same ∙ leads;
}

pub asks_both : (v w x : View) → Asks v w → Asks w x → Asks v x
asks_both v w x f g = record { learnt = learnt_both v w x f.learnt g.learnt; given = g.given ∙ f.given; pieces = g.pieces ∙ f.pieces; free = g.free; leads = g.leads }

answered_both : (v w x : View) → Asks v w → IsAnswered w x → IsAnswered v x
answered_both v w x f g = record { learnt = learnt_both v w x f.learnt g.learnt; free = g.free; leads = g.leads }

pub tried_both : (v w x : View) (a : Answer) → Asks v w → Tried w x a → Tried v x a
tried_both v w x A.NotYet f g = asks_both v w x f g
tried_both v w x A.Withdrawn f g = g
tried_both v w x A.Failed f g = (answered_both v w x f g.0, g.1, g.2 ∙ f.pieces)
tried_both v w x (A.Task at) f g = (answered_both v w x f g.0, g.1, g.2 ∙ f.pieces)
tried_both v w x (A.Piece at pair) f g = let h = g.2 in (
  answered_both v w x f g.0,
  g.1,
  record { inside = h.inside; piece = h.piece; is = h.is ∙ ap (λ (xs : List Share). h.piece ∷ xs) f.pieces; lies = h.lies; pair_is = h.pair_is },
)

pub setup_of : (v w : View) → Learnt v w → w.setup ≡ v.setup
setup_of v w l = ap (λ (y : View). y.setup) l.same

pub worker_of : (v w : View) → Learnt v w → w.worker ≡ v.worker
worker_of v w l = ap (λ (y : View). y.worker) l.same

pub crew_learnt : (v w : View) → Learnt v w → IsOfCrew v → IsOfCrew w
crew_learnt v w l h = crew_same v w (setup_of v w l) (worker_of v w l) h

pub worker_learnt : (v w : View) (k : ℕ) → Learnt v w → IsWorker v k → IsWorker w k
worker_learnt v w k l h = record { setup = h.setup; told = setup_of v w l ∙ h.told; below = h.below }

pub promised_learnt : (v w : View) → Learnt v w → w.tasks.promised ≡ v.tasks.promised
promised_learnt v w l = ap (λ (y : View). y.tasks.promised) l.same

-- what the own post says, of a seat that asks and was given nothing
pub settled : (u w : View) (o : Post) (a : Answer) → u.tasks.given ≡ [] → u.desk.free ≡ false → u.desk.leads ≡ false
    → ((at : ℕ) → a ≡ A.Task at → IsRecord u at) → ((at : ℕ) (piece : Pair) → a ≡ A.Piece at piece → IsRecord u at) → Settled o u w a → Tried u w a
settled u w P.Idle a given free leads inside piece_inside h = absurd h
settled u w (P.Posted victim) a given free leads inside piece_inside (is, same) =
    subst (Tried u w) (sym is) (record {
      learnt = learnt_of u w (sees u (packed_post (P.Posted victim)) false) same refl refl;
      given = ap (λ (y : View). y.tasks.given) same;
      pieces = ap (λ (y : View). y.loops.pieces) same;
      free = ap (λ (y : View). y.desk.free) same ∙ free;
      leads = ap (λ (y : View). y.desk.leads) same ∙ leads;
    })
settled u w (P.Held victim) a given free leads inside piece_inside (is, same) =
    subst (Tried u w) (sym is) (record {
      learnt = learnt_of u w (sees u (packed_post (P.Held victim)) false) same refl refl;
      given = ap (λ (y : View). y.tasks.given) same;
      pieces = ap (λ (y : View). y.loops.pieces) same;
      free = ap (λ (y : View). y.desk.free) same ∙ free;
      leads = ap (λ (y : View). y.desk.leads) same ∙ leads;
    })
settled u w P.Failed a given free leads inside piece_inside (is, same) =
    subst (Tried u w) (sym is) (
      record {
        learnt = learnt_of u w (freed (sees u (packed_post P.Failed) true)) same refl refl;
        free = ap (λ (y : View). y.desk.free) same;
        leads = ap (λ (y : View). y.desk.leads) same ∙ leads;
      },
      ap (λ (y : View). y.tasks.given) same ∙ given,
      ap (λ (y : View). y.loops.pieces) same,
    )
settled u w (P.Task at) a given free leads inside piece_inside (is, (m, lies, same, _)) =
    subst (Tried u w) (sym is) (
      record {
        learnt = learnt_of u w (freed (takes_task (sees u (packed_post (P.Task at)) true) m)) same refl refl;
        free = ap (λ (y : View). y.desk.free) same;
        leads = ap (λ (y : View). y.desk.leads) same ∙ leads;
      },
      record {
        task = m;
        is = ap (λ (y : View). y.tasks.given) same ∙ ap (λ (gs : List Spot). m ∷ gs) given;
        lies = lies;
        inside = record_same u w at (ap (λ (y : View). y.setup) same) (inside at is);
      },
      ap (λ (y : View). y.loops.pieces) same,
    )
settled u w (P.Piece at) a given free leads inside piece_inside (x, lies, fits, is, same, _) =
    subst (Tried u w) (sym is) (
      record {
        learnt = learnt_of u w (freed (takes_piece (gets_piece (sees u (packed_post (P.Piece at)) true) (packed_pair (pair_of x))) x)) same refl refl;
        free = ap (λ (y : View). y.desk.free) same;
        leads = ap (λ (y : View). y.desk.leads) same ∙ leads;
      },
      ap (λ (y : View). y.tasks.given) same ∙ given,
      record { inside = record_same u w at (ap (λ (y : View). y.setup) same) (piece_inside at (pair_of x) is); piece = x; is = ap (λ (y : View). y.loops.pieces) same; lies = lies; pair_is = refl },
    )

pub idle_asks : (v w : View) → IsIdle v → Asks v w → w.tasks.given ≡ []
idle_asks v w idle a = a.given ∙ idle.given
