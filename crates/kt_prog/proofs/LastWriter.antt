-- The loads of the reference run find what was written last.
use Rattle.std.proofs.Common.{◌≡◌, ◌≤◌, ◌<◌, ℕ, zero, suc, ◌+◌, ◌-◌, ◌*◌, Bool, true, false, List, [], ◌∷◌, ◌++◌, length, take, drop, replicate, reverse, slice_set, slice_index, nat_eq, nat_lt, refl, sym, ap, ◌∙◌, subst, arith, length-set, length-append, length-take, length-drop, if◌then◌else◌}
use Rattle.std.proofs.lemmas.Bool.Decides.{nat_tests}
use Rattle.std.proofs.lemmas.List.{get_or-set_same, get_or-set_other, length-replicate, reverse-append}
use Rattle.std.proofs.Math.Nat.{mul-le-mul_right, suc-mul}
use Rattle.std.proofs.lemmas.Grind.{flat_map-append}
use Rattle.kt_law.specs.Acts.{Act, Deed, Load, Store, Fold}
use Rattle.kt_order.specs.Body.{Stop, Do, Fork, Keeps}
use Rattle.kt_order.specs.Machine.{Machine, Code}
use Rattle.kt_order.specs.Sequential.{Run, Entry, alone, each, whole_within}
use Rattle.kt_order.specs.Trace.{Operation, Acted, Forked, Ended, trace}
use Rattle.kt_order.specs.Laws.{Acts}
use Rattle.kt_prog.specs.Calls.{CallTree, Job, Whole, Index}
use Rattle.kt_prog.specs.Script.{Script}
use Rattle.kt_prog.specs.Objects.{elements_of, first_element_of, inputs_of, width_of}
use Rattle.kt_prog.specs.Bodies.{script_of}
use Rattle.kt_prog.specs.Accepted.{IsAccepted}
use Rattle.kt_prog.specs.Fits.{Fits, is_main, FitsJob}
use Rattle.kt_prog.specs.Rights.{Directly, Forks}
use Rattle.kt_rights.specs.Acts.{effect, is_load}
use Rattle.kt_prog.specs.Store.{place_of, after}
use Rattle.kt_prog.specs.Reference.{Placed, placed_fork, placed, main_placed, machine_of, opened_with, reference}
use Rattle.kt_prog.specs.LastWriter.{operations_in, written, LoadsFindLastWritten}
use Rattle.kt_prog.specs.declared.programs.Program.{Program}
use Rattle.kt_prog.specs.declared.programs.Family.{Family}
use Rattle.kt_prog.proofs.Plain.{plain}

-- element e of member k of a family comes before the elements of the next member
member_below : (k e members elements : ℕ) → k < members → e < elements → k * elements + e < members * elements
member_below k e members elements lt le =
    let more : suc k * elements ≤ members * elements = mul-le-mul_right elements lt in
    omega (arith, more, suc-mul k elements)

-- an element's number is below the number of all elements
pub place_below : (families : List Family) (object element : ℕ) → element < width_of families object
    → first_element_of families object + element < elements_of families
place_below [] object element lt = omega arith
place_below (f ∷ families) object element lt =
    family_below (nat_lt object f.members) refl lt (λ h. place_below families (object - f.members) element h)
  where
    family_below : (b : Bool) → nat_lt object f.members ≡ b → element < (if b then f.elements else width_of families (object - f.members))
        → (element < width_of families (object - f.members) → first_element_of families (object - f.members) + element < elements_of families)
        → (if b then object * f.elements else f.members * f.elements + first_element_of families
        (object - f.members)) + element < f.members * f.elements + elements_of families
    family_below true is h more =
        let inside : object < f.members = grind (arith, nat_tests) in
        omega (arith, member_below object element f.members f.elements inside h)
    family_below false is h more = omega (arith, more h)

-- as many numbers as there are elements
pub opened_length : (families : List Family) (input : List ℕ) → length input ≡ inputs_of families
    → length (opened_with families input) ≡ elements_of families
opened_length [] input h = refl
opened_length (f ∷ families) input h = family_opened f.input (f.members * f.elements) families input h (λ more e. opened_length families more e)
  where
    family_opened : (b : Bool) (n : ℕ) (families : List Family) (input : List ℕ) → length input ≡ (if b then n else 0) + inputs_of families
        → ((more : List ℕ) → length more ≡ inputs_of families → length (opened_with families more) ≡ elements_of families)
        → length (if b then take n input ++ opened_with families (drop n input) else replicate n 0 ++ opened_with families input) ≡ n + elements_of families
    family_opened true n families input h rest =
        let left : length input - n ≡ inputs_of families = omega arith in
        let after : length (opened_with families (drop n input)) ≡ elements_of families = rest (drop n input) (length-drop n input ∙ left) in
        omega (arith, length-append (take n input) (opened_with families (drop n input)), length-take n input, after)
    family_opened false n families input h rest =
        let after : length (opened_with families input) ≡ elements_of families = rest input (omega arith) in
        let zeros : length (replicate {A = ℕ} n 0) ≡ n = length-replicate n 0 in
        omega (arith, length-append (replicate n 0) (opened_with families input), zeros, after)

-- what is read after a number was changed
read_changed : (q e : ℕ) (f : ℕ → ℕ) (s : List ℕ) → q < length s
    → slice_index (slice_set s q (f (slice_index s q))) e ≡ (if nat_eq q e then f (slice_index s e) else slice_index s e)
read_changed q e f s lt = cases (nat_eq q e) refl
  where
    cases : (b : Bool) → nat_eq q e ≡ b
        → slice_index (slice_set s q (f (slice_index s q))) e ≡ (if b then f (slice_index s e) else slice_index s e)
    cases true is =
        let same : q ≡ e = grind (arith, nat_tests) in
        subst (λ (x : ℕ). slice_index (slice_set s q (f (slice_index s q))) x ≡ f (slice_index s x)) same (get_or-set_same s q (f (slice_index s q)) 0 lt)
    cases false is = get_or-set_other s q e (f (slice_index s q)) 0 (λ h. let t : nat_eq q e ≡ true = grind (arith, nat_tests) in cc)

module _ (p : Program) where
  abbrev m : Machine
  m = machine_of p

  abbrev Ops : Type 0
  Ops = List (Operation m)

  -- the operations lead from one store to another, and each load among them finds what the store has
  abbrev Leads : List ℕ → Ops → List ℕ → Type 0
  Leads s [] s' = s ≡ s'
  Leads s (Acted act a ∷ ops) s' =
      (place_of p.families act < length s) × (is_load act.deed ≡ true → a ≡ slice_index s (place_of p.families act)) × Leads (after p.families act s) ops s'
  Leads s (Forked c ∷ ops) s' = Leads s ops s'
  Leads s (Ended f ∷ ops) s' = Leads s ops s'

  leads_append : (xs ys : Ops) (s t u : List ℕ) → Leads s xs t → Leads t ys u → Leads s (xs ++ ys) u
  leads_append [] ys s t u h k = subst (λ (x : List ℕ). Leads x ys u) (sym h) k
  leads_append (Acted act a ∷ xs) ys s t u h k = (h.0, h.1, leads_append xs ys (after p.families act s) t u h.2 k)
  leads_append (Forked c ∷ xs) ys s t u h k = leads_append xs ys s t u h k
  leads_append (Ended f ∷ xs) ys s t u h k = leads_append xs ys s t u h k

  leads_length : (xs : Ops) (s t : List ℕ) → Leads s xs t → length t ≡ length s
  leads_length [] s t h = ap length (sym h)
  leads_length (Acted act a ∷ xs) s t h =
      let e = place_of p.families act in
      leads_length xs (after p.families act s) t h.2 ∙ length-set s e (effect act.deed (slice_index s e))
  leads_length (Forked c ∷ xs) s t h = leads_length xs s t h
  leads_length (Ended f ∷ xs) s t h = leads_length xs s t h

  -- the store has all elements
  abbrev Full : List ℕ → Type 0
  Full s = length s ≡ elements_of p.families

  abbrev There : Act → Type 0
  There act = place_of p.families act < elements_of p.families

  -- the operations of a body, done alone on this store
  abbrev done : Code m → List ℕ → Ops
  done w s = trace m w (alone m w s).answers

  act_leads : (o e : ℕ) (deed : Deed) (k : ℕ → Code m) (s : List ℕ) → Full s → There (record { object = o; element = e; deed = deed })
      → ((a : ℕ) (t : List ℕ) → Full t → Leads t (done (k a) t) (alone m (k a) t).store)
      → Leads s (done (Do (record { object = o; element = e; deed = deed }) k) s) (alone m (Do (record { object = o; element = e; deed = deed }) k) s).store
  act_leads o e Load k s full there next =
      let at = first_element_of p.families o + e in
      (subst (λ n. at < n) (sym full) there, λ _. refl, next (slice_index s at) (slice_set s at (slice_index s at)) (length-set s at (slice_index s at) ∙ full))
  act_leads o e (Store v) k s full there next =
      let at = first_element_of p.families o + e in
      (subst (λ n. at < n) (sym full) there, λ h. cc, next 0 (slice_set s at v) (length-set s at v ∙ full))
  act_leads o e (Fold op v) k s full there next =
      let at = first_element_of p.families o + e in (
        subst (λ n. at < n) (sym full) there,
        λ h. cc,
        next 0 (slice_set s at (effect (Fold op v) (slice_index s at)))
            (length-set s at (effect (Fold op v) (slice_index s at)) ∙ full),
      )

  body_leads : (w : Code m) (s : List ℕ) → Full s → Acts m There w → Leads s (done w s) (alone m w s).store
  body_leads (Stop f) s full acts = refl
  body_leads (Fork c w) s full acts = body_leads w s full acts
  body_leads (Do act k) s full acts = act_leads act.object act.element act.deed k s full acts.0 (λ a t full'. body_leads (k a) t full' (acts.1 a))

  -- what a body may do is there, and what it forks fits
  module _ (job : Job) where
    placed_acts : (path : List ℕ) (n : ℕ) (w : Script) → Keeps (Directly p job) (Forks p job) w
        → ((act : Act) → Directly p job act → There act) → Acts m There (placed path n w)
    placed_acts path n (Stop f) keeps there = tt
    placed_acts path n (Do act k) keeps there = (there act keeps.0, λ a. placed_acts path n (k a) (keeps.1 a) there)
    placed_acts path n (Fork c w) keeps there = placed_acts path (suc n) w keeps.1 there

    abbrev EachFits : List Placed → Type 0
    EachFits [] = Unit {0}
    EachFits (c ∷ cs) = FitsJob p c.job × EachFits cs

    fork_fits : (path : List ℕ) (n : ℕ) (child : Job) → FitsJob p child → FitsJob p (placed_fork path n child).job
    fork_fits path n (Whole call) fits = fits
    fork_fits path n (Index call i) fits = fits

    forks_fit : (path : List ℕ) (n : ℕ) (w : Script) (s : List ℕ) → Keeps (Directly p job) (Forks p job) w
        → ((child : Job) → Forks p job child → FitsJob p child) → EachFits (alone m (placed path n w) s).forks
    forks_fit path n (Stop f) s keeps fits = tt
    forks_fit path n (Do act k) s keeps fits = forks_fit path n (k (m.answer act s)) (m.after act s) (keeps.1 (m.answer act s)) fits
    forks_fit path n (Fork c w) s keeps fits = (fork_fits path n c (fits c keeps.0), forks_fit path (suc n) w s keeps.1 fits)

  -- the bodies of an accepted program's run
  module _ (ok : IsAccepted p) where
    there : (job : Job) (act : Act) → Directly p job act → There act
    there (Whole call) act d = place_below p.families act.object act.element d.0
    there (Index call i) act d = place_below p.families act.object act.element d.0

    child_fits : (job child : Job) → FitsJob p job → Forks p job child → FitsJob p child
    child_fits (Whole call) (Whole child) fits h = h.fits
    child_fits (Whole call) (Index loop i) fits h = subst (λ (c : CallTree). Fits p c × (i < c.length)) (sym h.0) (fits, h.1)
    child_fits (Index call i) child fits h = absurd h

    kept : (job : Job) → FitsJob p job → Keeps (Directly p job) (Forks p job) (script_of p job)
    kept job fits = plain (λ w. w) p ok job fits

    -- one body, and then what follows
    entry_leads : (c : Placed) (s : List ℕ) → FitsJob p c.job → Full s → Leads s (done (m.tree c) s) (alone m (m.tree c) s).store
    entry_leads c s fits full = body_leads (m.tree c) s full (placed_acts c.job c.path 1 (script_of p c.job) (kept c.job fits) (there c.job))

    abbrev LeadsAll : (Placed → List ℕ → Run m) → Type 0
    LeadsAll f = (c : Placed) (s : List ℕ) → FitsJob p c.job → Full s → Leads s (operations_in p (f c s).entries) (f c s).store

    each_leads : (f : Placed → List ℕ → Run m) → LeadsAll f → (job : Job) (cs : List Placed) → EachFits job cs → (s : List ℕ) → Full s
        → Leads s (operations_in p (each m f cs s).entries) (each m f cs s).store
    each_leads f all job [] fits s full = refl
    each_leads f all job (c ∷ cs) fits s full =
        let x = f c s in
        let first = all c s fits.0 full in
        let full' = leads_length (operations_in p x.entries) s x.store first ∙ full in
        rw (flat_map-append (λ (e : Entry m). trace m (m.tree e.call) e.answers) x.entries (each m f cs x.store).entries)
        (leads_append (operations_in p x.entries) (operations_in p (each m f cs x.store).entries) s x.store
        (each m f cs x.store).store first (each_leads f all job cs fits.1 x.store full'))

    whole_leads : (n : ℕ) → LeadsAll (whole_within m n)
    whole_leads zero c s fits full =
        let a = alone m (m.tree c) s in
        leads_append (done (m.tree c) s) [] s a.store a.store (entry_leads c s fits full) refl
    whole_leads (suc n) c s fits full =
        let a = alone m (m.tree c) s in
        let first = entry_leads c s fits full in
        let more = forks_fit c.job c.path 1 (script_of p c.job) s (kept c.job fits) (λ child h. child_fits c.job child fits h) in
        let full' = leads_length (done (m.tree c) s) s a.store first ∙ full in
        let x = each m (whole_within m n) a.forks a.store in
        leads_append (done (m.tree c) s) (operations_in p x.entries) s a.store x.store first
        (each_leads (whole_within m n) (whole_leads n) c.job a.forks more a.store full')

  -- what one operation makes of an element
  abbrev changed : ℕ → Operation m → ℕ → ℕ
  changed e (Acted act a) n = if nat_eq (place_of p.families act) e then effect act.deed n else n
  changed e (Forked c) n = n
  changed e (Ended f) n = n

  written_first : (e opening : ℕ) (x : Operation m) (xs : Ops) → written p e opening (xs ++ x ∷ []) ≡ written p e (changed e x opening) xs
  written_first e opening (Acted act a) [] = refl
  written_first e opening (Forked c) [] = refl
  written_first e opening (Ended f) [] = refl
  written_first e opening x (Acted act a ∷ xs) = ap (λ n. if nat_eq (place_of p.families act) e then effect act.deed n else n) (written_first e opening x xs)
  written_first e opening x (Forked c ∷ xs) = written_first e opening x xs
  written_first e opening x (Ended f ∷ xs) = written_first e opening x xs

  -- the store behind the first operation, and what it has of an element
  first_leads : (e : ℕ) (x : Operation m) (xs : Ops) (s t : List ℕ) → Leads s (x ∷ xs) t
      → (u : List ℕ) × Leads u xs t × (slice_index u e ≡ changed e x (slice_index s e))
  first_leads e (Forked c) xs s t h = (s, h, refl)
  first_leads e (Ended f) xs s t h = (s, h, refl)
  first_leads e (Acted act a) xs s t h = (after p.families act s, h.2, read_changed (place_of p.families act) e (effect act.deed) s h.0)

  load_finds : (before rest : Ops) (s t : List ℕ) (o i a : ℕ)
      → Leads s (before ++ Acted (record { object = o; element = i; deed = Load }) a ∷ rest) t
      → let e = first_element_of p.families o + i in a ≡ written p e (slice_index s e) (reverse before)
  load_finds [] rest s t o i a h = h.1 refl
  load_finds (x ∷ before) rest s t o i a h =
      let e = first_element_of p.families o + i in
      let first = first_leads e x (before ++ Acted (record { object = o; element = i; deed = Load }) a ∷ rest) s t h in
      load_finds before rest first.0 t o i a first.1
      ∙ ap (λ n. written p e n (reverse before)) first.2
      ∙ sym (written_first e (slice_index s e) x (reverse before))
      ∙ ap (written p e (slice_index s e)) (sym (reverse-append (x ∷ []) before))

pub loads_find_last_written : LoadsFindLastWritten
unfolding reference
loads_find_last_written p ok input long before rest o i a h =
    let s = opened_with p.families input in
    let run = whole_within (machine_of p) ((machine_of p).height main_placed) main_placed s in
    let leads = whole_leads p ok ((machine_of p).height main_placed) main_placed s (is_main refl) (opened_length p.families input long) in
    load_finds p before rest s run.store o i a (subst (λ (ops : List (Operation (machine_of p))). Leads p s ops run.store) h leads)
