-- A core that has not begun is sound.
use Rattle.std.proofs.Common.{◌≡◌, ℕ, zero, suc, sym, refl, subst, length, List, [], ◌∷◌, None, Some, arith}
use Rattle.std.specs.List.{slice_get}
use Rattle.std.proofs.lemmas.Option.{same_Some}
use Rattle.kt_prog.specs.Calls.{main_call}
use Rattle.kt_prog.specs.Fits.{is_main}
use Rattle.kt_prog.specs.Accepted.{IsAccepted}
use Rattle.kt_prog.specs.Objects.{inputs_of}
use Rattle.kt_prog.specs.declared.programs.Program.{Program}
use Rattle.kt_store.specs.Stores.{StoreState, opened}
use Rattle.kt_tables.specs.Tables.{CoreState, TaskRow, fresh_row, is_child, opening_state}
use Rattle.kt_tables.specs.TableLaws.{OpeningTableIsLawful}
use Rattle.kt_core.specs.Links.{AllFit, AreLinked, IsParent, IsSettled, IsSound, LinkState, fresh_links, numbers_of}

alone : {X : Type 0} → (x y : X) (t : ℕ) → slice_get (x ∷ []) t ≡ Some y → y ≡ x
alone x y zero e = sym (same_Some x y e)
alone x y (suc t) e = absurd (cc e)

main_linked : AreLinked ([] ∷ []) (fresh_links None ∷ [])
main_linked = record {
  count = refl;
  children = λ t path l at atl. of_main path l (alone [] path t at) (alone (fresh_links None) l t atl);
  parent = λ t path l at atl. root path l (alone [] path t at) (alone (fresh_links None) l t atl);
}
  where
    of_main : (path : List ℕ) (l : LinkState) → path ≡ [] → l ≡ fresh_links None → l.children ≡ numbers_of (is_child path) ([] ∷ [])
    of_main path l e is = rw is refl

    root : (path : List ℕ) (l : LinkState) → path ≡ [] → l ≡ fresh_links None → IsParent ([] ∷ []) path l.parent
    root path l e is = rw (e, is) refl

main_settled : {tasks : List TaskRow} → (l : LinkState) → l ≡ fresh_links None → IsSettled tasks l
main_settled {tasks} l is = subst (IsSettled tasks) (sym is) (record { within = omega arith; done = λ i k lt g. absurd (omega (arith, lt)) })

main_fits : (p : Program) → AllFit p (main_call ∷ [])
main_fits p t call at = is_main (alone main_call call t at)

pub opening_sound : OpeningTableIsLawful → (p : Program) (input : List ℕ) → IsAccepted p → length input ≡ inputs_of p.families
    → IsSound (opening_state p input) (fresh_links None ∷ [])
opening_sound law p input ok whole = record {
  lawful = record { accepted = ok; input = whole; table = ∣ law p input ok ∣₁ };
  linked = main_linked;
  settled = λ t l at. main_settled l (alone (fresh_links None) l t at);
  fit = main_fits p;
  few = omega arith;
}

-- a core with this store and these rows
abbrev pub with_rows : List ℕ → StoreState → List TaskRow → CoreState
with_rows input store rows = record { program = store.program; input = input; table = record { store = store.elements; tasks = rows } }

pub opened_is : (p : Program) (input : List ℕ) (store : StoreState) (rows : List TaskRow) → store ≡ opened p input → rows ≡ fresh_row [] main_call ∷ []
    → with_rows input store rows ≡ opening_state p input
opened_is p input store rows s r = rw (s, r) refl
