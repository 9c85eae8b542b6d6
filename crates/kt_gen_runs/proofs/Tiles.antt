-- Products of tiles: what three `for` with the fork of a kernel in them do.
use Rattle.std.proofs.Common.{◌≡◌, ◌<◌, ◌≤◌, ℕ, suc, ◌+◌, ◌*◌, ◌^◌, false, List, [], ◌∷◌, ◌++◌, Some, None, codes, length, take, nat_lt, true, refl, ap, arith}
use Rattle.std.proofs.Math.Nat.{mod-eq_of_lt, suc-mul}
use Rattle.std.proofs.lemmas.Nat.{mul-le}
use Rattle.kt_law.specs.Accesses.{clashes}
use Rattle.kt_law.specs.declared.modes.Mode.{Mode}
use Rattle.kt_law.specs.declared.modes.Mode.TheVariants.{R}
use Rattle.kt_law.specs.declared.operators.BinOp.TheVariants as B
use Rattle.kt_law.specs.declared.places.Place.{Place}
use Rattle.kt_prog.specs.Bodies.{site_of}
use Rattle.kt_prog.specs.Calls.{CallTree, Whole}
use Rattle.kt_prog.specs.Forks.{Given, with_access}
use Rattle.kt_prog.specs.Locals.{Site, bound_of}
use Rattle.kt_prog.specs.Script.{Script, give}
use Rattle.kt_prog.specs.Statements.{StmtMeaning, stmt_of}
use Rattle.kt_prog.specs.Targets.{target_of}
use Rattle.kt_prog.specs.Values.{View, value_of}
use Rattle.kt_prog.specs.declared.programs.Expr.{Num, Var, Bin}
use Rattle.kt_prog.specs.declared.programs.Program.{Program}
use Rattle.kt_prog.specs.declared.programs.Sort.{Sort}
use Rattle.kt_prog.specs.declared.programs.Sort.TheVariants as S
use Rattle.kt_prog.specs.declared.scope.Bound.TheVariants.{Number, Many}
use Rattle.kt_prog.specs.declared.scope.Local.{Local}
use Rattle.kt_prog.specs.declared.scope.TheConstants.{NAMES}
use Rattle.kt_gen.specs.Trees.{fork, on, tile, tile_args, tiles}
use Rattle.kt_gen_runs.proofs.Runs.{IsChild}
use Rattle.kt_gen_runs.proofs.Values.{Adds, forked, none_given, int_given, member_given, more_given, no_length, value_bin, value_num, value_var}
use Rattle.kt_gen_runs.proofs.Passing.{Passes, numbered, passes_fork, seen_at, times}
use Rattle.kt_gen_runs.proofs.Forking.{one_object, passes_below}

pub tile_below : (r c size : ℕ) → r < size → c < size → r * size + c < size * size
tile_below r c size h g =
    let rows = mul-le (suc r) size size size (omega (arith, h)) (omega arith) in
    omega (arith, rows, g, suc-mul r size)

module _ (lost : Script → Script) where
  tile_value : (at : Place) (row column : List ℕ) (size r c : ℕ) (v : View) → bound_of v.site v.locals row ≡ Some (Number r)
      → bound_of v.site v.locals column ≡ Some (Number c) → r * size + c < 2 ^ 64
      → value_of lost (Bin B.Add (Bin B.Mul (Var row at) (Num size)) (Var column at)) v ≡ give (r * size + c)
  tile_value at row column size r c v hr hc small =
      let product : r * size < 2 ^ 64 = omega (arith, small) in
      value_bin lost B.Add _ _ (r * size) c (r * size + c) v
      (value_bin lost B.Mul _ _ r size (r * size) v (value_var lost row at r v hr) (value_num lost size v) (ap Some (mod-eq_of_lt product)))
      (value_var lost column at c v hc) (ap Some (mod-eq_of_lt small))

  tile_given : (at : Place) (name row column : List ℕ) (size r c : ℕ) (mode : Mode) (first : ℕ) (v : View) (g : Given)
      → bound_of v.site v.locals name ≡ Some (Many first (first + size * size)) → bound_of v.site v.locals row ≡ Some (Number r)
      → bound_of v.site v.locals column ≡ Some (Number c) → r < size → c < size → size ≤ 25
      → Adds lost (S.One mode) (tile at name row size column) v g (with_access g (first + (r * size + c)) (first + (r * size + c) + 1) mode)
  tile_given at name row column size r c mode first v g hn hr hc lr lc few =
      let inside = tile_below r c size lr lc in
      let square : size * size ≤ 25 * 25 = mul-le size size 25 25 few few in
      member_given lost at name (Bin B.Add (Bin B.Mul (Var row at) (Num size)) (Var column at)) mode first (first + size * size) (r * size + c) (first + (r * size + c)) v g hn
      (tile_value at row column size r c v hr hc (omega (arith, inside, square))) refl (omega (arith, inside))

abbrev pub sorts_of_tiles : Mode → List Sort
sorts_of_tiles last = S.Int ∷ S.Int ∷ S.Int ∷ S.One R ∷ S.One R ∷ S.One last ∷ []

-- three names more
abbrev pub tiled : List Local → ℕ → ℕ → ℕ → List Local
tiled L x y z = ((L ++ numbered (codes "i") x ∷ []) ++ numbered (codes "j") y ∷ []) ++ numbered (codes "k") z ∷ []

-- the call of a kernel
abbrev pub tile_call : ℕ → Mode → ℕ → ℕ → ℕ → CallTree
tile_call number last a b c = record {
  task = number;
  depth = 1;
  length = 0;
  ints = 16 ∷ 16 ∷ 16 ∷ [];
  accesses = one_object a R ∷ one_object b R ∷ one_object c last ∷ [];
}

module _ (p : Program) (lost : Script → Script) where
  abbrev site : Site
  site = site_of p true 0

  -- the names are found, a call of the kernel with tiles of these ranges has no clash, and it completes
  pub record TilesFit (L : List Local) (size : ℕ) (kernel a b c : List ℕ) (last : Mode) : Type 0 where
    pub few : size ≤ 25
    pub number : ℕ
    pub first_a : ℕ
    pub first_b : ℕ
    pub first_c : ℕ
    pub i : (x y z : ℕ) → bound_of site (tiled L x y z) (codes "i") ≡ Some (Number x)
    pub j : (x y z : ℕ) → bound_of site (tiled L x y z) (codes "j") ≡ Some (Number y)
    pub k : (x y z : ℕ) → bound_of site (tiled L x y z) (codes "k") ≡ Some (Number z)
    pub a_is : (x y z : ℕ) → bound_of site (tiled L x y z) a ≡ Some (Many first_a (first_a + size * size))
    pub b_is : (x y z : ℕ) → bound_of site (tiled L x y z) b ≡ Some (Many first_b (first_b + size * size))
    pub c_is : (x y z : ℕ) → bound_of site (tiled L x y z) c ≡ Some (Many first_c (first_c + size * size))
    pub target : target_of p.tasks kernel ≡ Some (record { number = number; is_loop = false; sorts = sorts_of_tiles last })
    pub apart : (u v w : ℕ) → u < size * size → v < size * size → w < size * size
        → clashes (tile_call number last (first_a + u) (first_b + v) (first_c + w)).accesses ≡ false
    pub child : (u v w : ℕ) → u < size * size → v < size * size → w < size * size
        → IsChild p (Whole (tile_call number last (first_a + u) (first_b + v) (first_c + w)))
    pub room : (nat_lt (length L) NAMES ≡ true) × ((x : ℕ) → nat_lt (length (L ++ numbered (codes "i") x ∷ [])) NAMES ≡ true)
        × ((x y : ℕ) → nat_lt (length ((L ++ numbered (codes "i") x ∷ []) ++ numbered (codes "j") y ∷ [])) NAMES ≡ true)
    pub taken : ((x : ℕ) → take (length L) (L ++ numbered (codes "i") x ∷ []) ≡ L)
        × ((x y : ℕ) → take (length (L ++ numbered (codes "i") x ∷ [])) ((L ++ numbered (codes "i") x ∷ []) ++ numbered (codes "j") y ∷ []) ≡ L ++ numbered (codes "i") x ∷ [])
        × ((x y z : ℕ) → take (length ((L ++ numbered (codes "i") x ∷ []) ++ numbered (codes "j") y ∷ [])) (tiled L x y z)
        ≡ (L ++ numbered (codes "i") x ∷ []) ++ numbered (codes "j") y ∷ [])

  abbrev PassesHere : List Local → ℕ → ℕ → ℕ → StmtMeaning → Type 0
  PassesHere = Passes (IsChild p) lost site

  fork_passes : (L : List Local) (size : ℕ) (kernel a b c : List ℕ) (last : Mode) (at : Place) (x y z : ℕ) → TilesFit L size kernel a b c last
      → x < size → y < size → z < size → PassesHere (tiled L x y z) 1 1 0 (stmt_of lost (fork at kernel None (tile_args at size a b c)))
  fork_passes L size kernel a b c last at x y z f lx ly lz =
      let v : View = seen_at (IsChild p) lost site (tiled L x y z) at.line in
      let u1 = x * size + z in
      let u2 = z * size + y in
      let u3 = x * size + y in
      let h1 = tile_below x z size lx lz in
      let h2 = tile_below z y size lz ly in
      let h3 = tile_below x y size lx ly in
      let call = tile_call f.number last (f.first_a + u1) (f.first_b + u2) (f.first_c + u3) in
      passes_fork (IsChild p) lost site at kernel None (tile_args at size a b c) (tiled L x y z) call
      (forked lost _ _ None (tile_args at size a b c) v 0 (record { ints = call.ints; accesses = call.accesses }) f.target (no_length lost v)
      (more_given lost _ _ _ _ v _ _ _ (int_given lost at (Num 16) 16 v _ (value_num lost 16 v))
      (more_given lost _ _ _ _ v _ _ _ (int_given lost at (Num 16) 16 v _ (value_num lost 16 v))
      (more_given lost _ _ _ _ v _ _ _ (int_given lost at (Num 16) 16 v _ (value_num lost 16 v))
      (more_given lost _ _ _ _ v _ _ _ (tile_given lost at a (codes "i") (codes "k") size x z R f.first_a v _ (f.a_is x y z) (f.i x y z) (f.k x y z) lx lz f.few)
      (more_given lost _ _ _ _ v _ _ _ (tile_given lost at b (codes "k") (codes "j") size z y R f.first_b v _ (f.b_is x y z) (f.k x y z) (f.j x y z) lz ly f.few)
      (more_given lost _ _ _ _ v _ _ _ (tile_given lost at c (codes "i") (codes "j") size x y last f.first_c v _ (f.c_is x y z) (f.i x y z) (f.j x y z) lx ly f.few)
      (none_given lost v _))))))) (f.apart u1 u2 u3 h1 h2 h3) refl) (f.child u1 u2 u3 h1 h2 h3)

  abbrev pub steps_of_tiles : ℕ → ℕ
  steps_of_tiles size = suc (times size (suc (suc (times size (suc (suc (times size 2)))))))

  pub tiles_pass : (line : ℕ) (L : List Local) (size : ℕ) (kernel a b c : List ℕ) (last : Mode) → TilesFit L size kernel a b c last
      → PassesHere L (steps_of_tiles size) (times size (times size (times size 1))) (times size (times size (times size 0)))
      (stmt_of lost (tiles line size kernel a b c))
  tiles_pass line L size kernel a b c last f =
      passes_below (IsChild p) lost site (on line) (codes "i") size _ L _ _ _ f.room.0 f.taken.0 (λ x lx.
      passes_below (IsChild p) lost site (on (line + 1)) (codes "j") size _ _ _ _ _ (f.room.1 x) (f.taken.1 x) (λ y ly.
      passes_below (IsChild p) lost site (on (line + 2)) (codes "k") size _ _ _ _ _ (f.room.2 x y) (f.taken.2 x y) (λ z lz.
      fork_passes L size kernel a b c last (on (line + 3)) x y z f lx ly lz)))
