-- A program of calls with accesses, over a store of elements, as a machine of the theory of reordering.
use Rattle.std.specs.Prelude.{◌≡◌, ℕ, ◌<◌, List, Option}
use Rattle.kt_law.specs.Acts.{Act}
use Rattle.kt_law.specs.declared.accesses.Access.{Access}
use Rattle.kt_order.specs.Body.{Body}
use Rattle.kt_order.specs.Machine.{Machine}
use Rattle.kt_rights.specs.Acts.{is_load, effect, found}

-- A call here is a call with all that its body does, or one index of a loop's call.
pub record Plan : Type 1 where
  pub Call : Type 0
  pub Fault : Type 0
  pub tree : Call → Body Fault ℕ Act Call
  pub height : Call → ℕ
  -- the program may make the call
  pub Fits : Call → Type 0
  -- the accesses of the call, or of the loop of which it is an index
  pub accesses : Call → List Access
  -- which index it is
  pub own : Call → Option ℕ
  -- the number of elements of an object
  pub width : ℕ → ℕ
  pub Store : Type 0
  -- the number of an object's element, and the store with that number changed
  pub look : ℕ → ℕ → Store → ℕ
  pub change : ℕ → ℕ → (ℕ → ℕ) → Store → Store

module _ (p : Plan) where
  abbrev pub after : Act → p.Store → p.Store
  after q s = p.change q.object q.element (effect q.deed) s

  abbrev pub answer : Act → p.Store → ℕ
  answer q s = found q.deed (p.look q.object q.element s)

  abbrev pub machine : Machine
  machine = record {
    Store = p.Store;
    Act = Act;
    Answer = ℕ;
    Call = p.Call;
    Fault = p.Fault;
    after = after;
    answer = answer;
    asks = λ q. is_load q.deed;
    none = 0;
    tree = p.tree;
    height = p.height;
  }

  -- two elements that are not the same one
  abbrev pub AreTwo : ℕ → ℕ → ℕ → ℕ → Type 0
  AreTwo o e o' e' = o ≡ o' → e ≡ e' → ⊥

  -- Each element has a number of its own: a change of another leaves it, and commutes with a change of it. So do two changes of one
  -- element that commute on its number, and to change no number changes nothing.
  pub record IsStore : Type 0 where
    pub look_other : (o e o' e' : ℕ) (f : ℕ → ℕ) (s : p.Store) → e < p.width o → e' < p.width o' → AreTwo o e o' e'
        → p.look o e (p.change o' e' f s) ≡ p.look o e s
    pub other : (o e o' e' : ℕ) (f g : ℕ → ℕ) (s : p.Store) → e < p.width o → e' < p.width o' → AreTwo o e o' e'
        → p.change o e f (p.change o' e' g s) ≡ p.change o' e' g (p.change o e f s)
    pub same : (o e : ℕ) (f g : ℕ → ℕ) (s : p.Store) → ((a : ℕ) → f (g a) ≡ g (f a))
        → p.change o e f (p.change o e g s) ≡ p.change o e g (p.change o e f s)
    pub still : (o e : ℕ) (s : p.Store) → p.change o e (λ a. a) s ≡ s
