-- The lines of numbers are read back as the numbers.
use Rattle.std.proofs.Common.{◌≡◌, ◌≢◌, ◌≤◌, ◌<◌, ℕ, zero, suc, ◌+◌, ◌-◌, ◌*◌, ◌^◌, ◌/◌, ◌%◌, Bool, true, false, not, List, [], ◌∷◌, ◌++◌, length, take, drop, map, codes, Some, Ok, nat_eq, nat_lt, refl, ap, sym, subst, ◌∙◌, append_assoc, arith}
use Rattle.std.specs.Prelude.{◌||◌, if◌then◌else◌}
use Rattle.std.specs.Char.{is_ascii_digit}
use Rattle.std.specs.Fmt.{decimal}
use Rattle.std.specs.List.{flat_map, list_all, prefix_len, range_with_len}
use Rattle.std.proofs.lemmas.Bool.Decides.{nat_tests}
use Rattle.std.proofs.lemmas.List.{append-nil, drop-drop, length-append, length-drop, length-map, map-append}
use Rattle.std.proofs.Math.Nat.{mod-lt}
use Rattle.std.proofs.Math.Seq.{drop-append_seam}
use Rattle.kt_print.specs.Rows.{number_text}
use Rattle.kt_text.specs.Bytes.{is_blank, is_item_byte}
use Rattle.kt_text.specs.Data.{item_number_of, numbers}
use Rattle.kt_text.proofs.ItemLists.{IsRead, is_read-more, is_read-none, numbers-all}
use Rattle.kt_canon.proofs.Regrouped.{take_front}
use Rattle.kt_canon.proofs.Spelled.{Writes, all_head, decimal_writes, prefix_all}
use Rattle.kt_prog.specs.Objects.{inputs_of}
use Rattle.kt_prog.specs.declared.programs.Program.{Program}
use Rattle.kt_print.specs.CanonicalText.{family_text, main_text, task_text}
use Rattle.kt_read.specs.Jobs.{IsJob}
use Rattle.kt_text.specs.declared.commands.Kind.{Kind}
use Rattle.kt_text.specs.declared.commands.Kind.TheVariants.{Mul, Walks, Stencil, Scan}
use Rattle.kt_gen.specs.Jobs.{IsReadAs, IsSize, job_text}
use Rattle.kt_gen.specs.Numbers.{arc, drawn, element_of, lines_text, members_of, numbers_of, row_of, row_text, rows_of, width_of}
use Rattle.kt_gen.specs.Texts.{program_text}
use Rattle.kt_gen.specs.Trees.{program_of}
use Rattle.kt_gen.proofs.RowNumbers.{all_numbers, length_range, row_length, rows_by_place}
use Rattle.kt_gen.proofs.TreeTexts.{text_is}
use Rattle.kt_gen.proofs.Written.{read_again}

-- numbers, each with the byte behind it
abbrev pub spaced : List (ℕ × ℕ) → List ℕ
spaced [] = []
spaced (x ∷ xs) = decimal x.0 ++ x.1 ∷ spaced xs

abbrev pub AreItems : List (ℕ × ℕ) → Type 0
AreItems [] = Unit {0}
AreItems (x ∷ xs) = (x.0 < 2 ^ 64) × ((is_blank x.1 ≡ true) × AreItems xs)

digit_item : (b : ℕ) → is_ascii_digit b ≡ true → is_item_byte b ≡ true
digit_item b h = grind (arith, nat_tests)

digits_items : (ds : List ℕ) → list_all is_ascii_digit ds ≡ true → list_all is_item_byte ds ≡ true
digits_items [] h = refl
digits_items (d ∷ ds) h = let parts = all_head is_ascii_digit d ds h in rw (digit_item d parts.0, digits_items ds parts.1) refl

not_blank : (v : Bool) → not v ≡ true → v ≡ false
not_blank true h = sym h
not_blank false h = refl

-- no blank stands before digits
digits_first : (ds rest : List ℕ) → 0 < length ds → list_all is_ascii_digit ds ≡ true → prefix_len is_blank (ds ++ rest) ≡ 0
digits_first [] rest some h = absurd (omega arith)
digits_first (d ∷ ds) rest some h =
    let none : is_blank d ≡ false = not_blank (is_blank d) (digit_item d (all_head is_ascii_digit d ds h).0) in rw none refl

item_first : (xs : List (ℕ × ℕ)) → AreItems xs → prefix_len is_blank (spaced xs) ≡ 0
item_first [] items = refl
item_first (x ∷ xs) items = let w = decimal_writes x.0 items.0 in digits_first (decimal x.0) (x.1 ∷ spaced xs) w.some w.all

one_blank : (b : ℕ) (rest : List ℕ) → is_blank b ≡ true → prefix_len is_blank rest ≡ 0 → prefix_len is_blank (b ∷ rest) ≡ 1
one_blank b rest h none = rw (h, none) refl

is_number : (ds : List ℕ) (n : ℕ) → n < 2 ^ 64 → Writes n ds → Some n ≡ item_number_of ds
is_number ds n small w =
    let less : nat_lt n (2 ^ 64) ≡ true = grind (arith, nat_tests) in
    rw (w.all, w.value, less) refl

-- what stands at a place that is behind another
drop_on : (job front rest : List ℕ) (at : ℕ) → drop at job ≡ front ++ rest → drop (at + length front) job ≡ rest
drop_on job front rest at is =
    sym (drop-drop (length front) at job) ∙ ap (λ (xs : List ℕ). drop (length front) xs) is ∙ drop-append_seam front rest

numbers_of_all : (job : List ℕ) (from at wanted : ℕ) (so_far : List ℕ) (xs : List (ℕ × ℕ)) → AreItems xs → IsRead job from at wanted so_far → drop at job ≡ spaced xs →
    length so_far + length xs ≡ wanted → numbers job from wanted ≡ Ok (so_far ++ map (λ x. x.0) xs)
numbers_of_all job from at wanted so_far [] items r is all =
    let rest : length (drop at job) ≡ 0 = ap (λ (bs : List ℕ). length bs) is in
    numbers-all job from at wanted so_far r (omega (arith, length-drop at job)) (omega arith) ∙ ap Ok (sym (append-nil so_far))
numbers_of_all job from at wanted so_far (x ∷ xs) items r is all =
    let n : ℕ = x.0 in
    let ds : List ℕ = decimal n in
    let w = decimal_writes n items.0 in
    let rest : List ℕ = x.1 ∷ spaced xs in
    let stop : ℕ = at + length ds in
    let left : length (drop at job) ≡ length ds + length rest = ap (λ (bs : List ℕ). length bs) is ∙ length-append ds rest in
    let inside : at < length job = omega (arith, length-drop at job, w.some) in
    let within : stop ≤ length job = omega (arith, length-drop at job) in
    let other : is_item_byte x.1 ≡ false = ap not items.1.0 in
    let whole : stop ≡ at + prefix_len is_item_byte (drop at job) =
    ap (λ (k : ℕ). at + k) (sym (ap (λ (bs : List ℕ). prefix_len is_item_byte bs) is ∙ prefix_all is_item_byte ds x.1 (spaced xs) (digits_items ds w.all) other)) in
    let size : stop - at ≡ length ds = omega arith in
    let text : take (stop - at) (drop at job) ≡ ds = ap (λ (k : ℕ). take k (drop at job)) size ∙ ap (λ (bs : List ℕ). take (length ds) bs) is ∙ take_front ds rest in
    let number : Some n ≡ item_number_of (take (stop - at) (drop at job)) = is_number ds n items.0 w ∙ ap item_number_of (sym text) in
    let behind : drop stop job ≡ rest = drop_on job ds rest at is in
    let next : suc stop ≡ stop + prefix_len is_blank (drop stop job) =
    let one : prefix_len is_blank (drop stop job) ≡ 1 = ap (λ (bs : List ℕ). prefix_len is_blank bs) behind ∙ one_blank x.1 (spaced xs) items.1.0 (item_first xs items.1.1) in
    omega (arith, one) in
    let end : drop (suc stop) job ≡ spaced xs =
    let here : stop + 1 ≡ suc stop = omega arith in
    ap (λ (k : ℕ). drop k job) (sym here) ∙ drop_on job (x.1 ∷ []) (spaced xs) stop behind in
    let fewer : length so_far ≢ wanted = omega (arith, all) in
    let more = is_read-more job from at wanted stop n (suc stop) so_far (so_far ++ n ∷ []) r inside whole within number fewer next refl in
    let count : length (so_far ++ n ∷ []) + length xs ≡ wanted = omega (arith, length-append so_far (n ∷ []), all) in
    numbers_of_all job from (suc stop) wanted (so_far ++ n ∷ []) xs items.1.1 more end count ∙ ap Ok (append_assoc so_far (n ∷ []) (map (λ x. x.0) xs))

-- ---- rows as numbers with the bytes behind them

abbrev pairs_from : ℕ → List ℕ → List (ℕ × ℕ)
pairs_from n [] = (n, 10) ∷ []
pairs_from n (m ∷ row) = (n, 32) ∷ pairs_from m row

regrouped : (a b c d : List ℕ) → a ++ (codes " " ++ ((b ++ c) ++ d)) ≡ (a ++ ((codes " " ++ b) ++ c)) ++ d
regrouped a b c d = simp append_assoc refl

row_regrouped : (a b c d : List ℕ) → (a ++ ((codes " " ++ b) ++ (c ++ d))) ≡ a ++ (((codes " " ++ b) ++ c) ++ d)
row_regrouped a b c d = simp append_assoc refl

spaced_row : (n : ℕ) (row : List ℕ) (more : List (ℕ × ℕ)) → spaced (pairs_from n row ++ more) ≡ row_text (n ∷ row) ++ spaced more
spaced_row n [] more = sym (append_assoc (decimal n) (codes "\n") (spaced more))
spaced_row n (m ∷ row) more =
    let tail : List ℕ = flat_map number_text row in
    ap (λ (bs : List ℕ). decimal n ++ 32 ∷ bs) (spaced_row m row more) ∙ regrouped (decimal n) (decimal m) (tail ++ codes "\n") (spaced more)
    ∙ ap (λ (bs : List ℕ). bs ++ spaced more) (row_regrouped (decimal n) (decimal m) tail (codes "\n"))

firsts_row : (n : ℕ) (row : List ℕ) → map (λ x. x.0) (pairs_from n row) ≡ n ∷ row
firsts_row n [] = refl
firsts_row n (m ∷ row) = ap (λ (ns : List ℕ). n ∷ ns) (firsts_row m row)

abbrev pub AreSmall : List ℕ → Type 0
AreSmall [] = Unit {0}
AreSmall (n ∷ row) = (n < 2 ^ 64) × AreSmall row

-- rows of at least one number, each below 2^64
abbrev pub AreRows : List (List ℕ) → Type 0
AreRows [] = Unit {0}
AreRows ([] ∷ rows) = ⊥
AreRows ((n ∷ row) ∷ rows) = AreSmall (n ∷ row) × AreRows rows

items_row : (n : ℕ) (row : List ℕ) (more : List (ℕ × ℕ)) → AreSmall (n ∷ row) → AreItems more → AreItems (pairs_from n row ++ more)
items_row n [] more h items = (h.0, (refl, items))
items_row n (m ∷ row) more h items = (h.0, (refl, items_row m row more h.1 items))

-- the numbers of all rows with the bytes behind them
record Paired (rows : List (List ℕ)) : Type 0 where
  pairs : List (ℕ × ℕ)
  items : AreItems pairs
  text : spaced pairs ≡ lines_text rows
  firsts : map (λ x. x.0) pairs ≡ flat_map (λ row. row) rows

paired : (rows : List (List ℕ)) → AreRows rows → Paired rows
paired [] h = record { pairs = []; items = tt; text = refl; firsts = refl }
paired ([] ∷ rows) h = absurd h
paired ((n ∷ row) ∷ rows) h =
    let p = paired rows h.1 in
    record {
      pairs = pairs_from n row ++ p.pairs;
      items = items_row n row p.pairs h.0 p.items;
      text = spaced_row n row p.pairs ∙ ap (λ (bs : List ℕ). row_text (n ∷ row) ++ bs) p.text;
      firsts = map-append (λ x. x.0) (pairs_from n row) p.pairs ∙ (λ i. firsts_row n row i ++ p.firsts i);
    }

-- behind a byte that is blank, lines of rows are read as their numbers
pub rows_are_read : (front : List ℕ) (b : ℕ) (rows : List (List ℕ)) (wanted : ℕ) → AreRows rows → is_blank b ≡ true → length (flat_map (λ row. row) rows) ≡ wanted →
    numbers (front ++ b ∷ lines_text rows) (length front) wanted ≡ Ok (flat_map (λ row. row) rows)
rows_are_read front b rows wanted h blank all =
    let p = paired rows h in
    let job : List ℕ = front ++ b ∷ lines_text rows in
    let size : length job ≡ length front + suc (length (lines_text rows)) = length-append front (b ∷ lines_text rows) in
    let start : drop (length front) job ≡ b ∷ lines_text rows = drop-append_seam front (b ∷ lines_text rows) in
    let none : prefix_len is_blank (lines_text rows) ≡ 0 = ap (λ (bs : List ℕ). prefix_len is_blank bs) (sym p.text) ∙ item_first p.pairs p.items in
    let next : suc (length front) ≡ length front + prefix_len is_blank (drop (length front) job) =
    let one : prefix_len is_blank (drop (length front) job) ≡ 1 = ap (λ (bs : List ℕ). prefix_len is_blank bs) start ∙ one_blank b (lines_text rows) blank none in
    omega (arith, one) in
    let r = is_read-none job (length front) (suc (length front)) wanted [] (omega (arith, size)) next refl in
    let rest : drop (suc (length front)) job ≡ spaced p.pairs =
    let here : length front + 1 ≡ suc (length front) = omega arith in
    ap (λ (k : ℕ). drop k job) (sym here) ∙ drop_on job (b ∷ []) (lines_text rows) (length front) start ∙ sym p.text in
    let size_of : length p.pairs ≡ wanted = sym (length-map p.pairs (λ (x : ℕ × ℕ). x.0)) ∙ ap (λ (ns : List ℕ). length ns) p.firsts ∙ all in
    let count : 0 + length p.pairs ≡ wanted = omega (arith, size_of) in
    numbers_of_all job (length front) (suc (length front)) wanted [] p.pairs p.items r rest count ∙ ap Ok p.firsts

-- ---- the rows of generated jobs

module _ (number : ℕ) where
  drawn_small : (k : ℕ) → drawn number k < 2 ^ 64
  drawn_small k =
      let n : ℕ = number % 1009 in
      let less : (k * k + n * k + n) % 1009 < 1009 = mod-lt (k * k + n * k + n) (omega arith) in omega (arith, less)

  one_of : (b : Bool) (m n : ℕ) → m < 2 ^ 64 → n < 2 ^ 64 → (if b then m else n) < 2 ^ 64
  one_of true m n h k = h
  one_of false m n h k = k

  arc_small : (size u v : ℕ) → arc size number u v < 2 ^ 64
  arc_small size u v =
      let length : ℕ = drawn number (16 * size * u + v) in
      one_of (nat_eq u v) 0 (if nat_eq (length % 4) 0 then 2 ^ 64 - 1 else length) (omega arith)
      (one_of (nat_eq (length % 4) 0) (2 ^ 64 - 1) length (omega arith) (drawn_small (16 * size * u + v)))

  element_small : (kind : Kind) (size t e : ℕ) → element_of kind size number t e < 2 ^ 64
  element_small Mul size t e = drawn_small (256 * t + e)
  element_small Walks size t e = arc_small size (16 * (t / size) + e / 16) (16 * (t % size) + e % 16)
  element_small Stencil size t e =
      one_of (nat_eq t 0 || nat_eq t (size + 1)) 0 (drawn number (16 * (t - 1) + e)) (omega arith) (drawn_small (16 * (t - 1) + e))
  element_small Scan size t e = drawn_small (16 * t + e)

small_row : (f : ℕ → ℕ) (ks : List ℕ) → ((k : ℕ) → f k < 2 ^ 64) → AreSmall (map f ks)
small_row f [] h = tt
small_row f (k ∷ ks) h = (h k, small_row f ks h)

one_row : (f : ℕ → ℕ) (w : ℕ) (rows : List (List ℕ)) → 0 < w → ((k : ℕ) → f k < 2 ^ 64) → AreRows rows → AreRows (map f (range_with_len 0 w) ∷ rows)
one_row f zero rows some h more = absurd (omega arith)
one_row f (suc w) rows some h more = ((h 0, small_row f (range_with_len 1 w) h), more)

some_width : (kind : Kind) → 0 < width_of kind
some_width Mul = omega arith
some_width Walks = omega arith
some_width Stencil = omega arith
some_width Scan = omega arith

rows_by_number : (kind : Kind) (size number : ℕ) (ks : List ℕ) → AreRows (map (λ t. row_of kind size number t) ks)
rows_by_number kind size number [] = tt
rows_by_number kind size number (k ∷ ks) =
    one_row (λ e. element_of kind size number k e) (width_of kind) (map (λ t. row_of kind size number t) ks) (some_width kind)
    (λ e. element_small number kind size k e) (rows_by_number kind size number ks)

are_rows : (kind : Kind) (size number : ℕ) → AreRows (rows_of kind size number)
are_rows kind size number =
    subst (λ (rows : List (List ℕ)). AreRows rows) (sym (rows_by_place kind size number)) (rows_by_number kind size number (range_with_len 0 (members_of kind size)))

flat_length : (g : ℕ → List ℕ) (w : ℕ) (ks : List ℕ) → ((k : ℕ) → length (g k) ≡ w) → length (flat_map g ks) ≡ length ks * w
flat_length g w [] h = omega arith
flat_length g w (k ∷ ks) h =
    let rest : length (flat_map g ks) ≡ length ks * w = flat_length g w ks h in
    let all : suc (length ks) * w ≡ w + length ks * w = omega arith in
    length-append (g k) (flat_map g ks) ∙ (λ i. h k i + rest i) ∙ sym all

wanted_of : (kind : Kind) (size : ℕ) → members_of kind size * width_of kind ≡ inputs_of (program_of kind size).families
wanted_of Mul size = let q : ℕ = size * size in omega arith
wanted_of Walks size = let q : ℕ = size * size in omega arith
wanted_of Stencil size = omega arith
wanted_of Scan size = omega arith

how_many : (kind : Kind) (size number : ℕ) → length (numbers_of kind size number) ≡ inputs_of (program_of kind size).families
how_many kind size number =
    let ks : List ℕ = range_with_len 0 (members_of kind size) in
    ap (λ (ns : List ℕ). length ns) (sym (all_numbers kind size number))
    ∙ flat_length (λ t. row_of kind size number t) (width_of kind) ks (λ t. row_length kind size number t)
    ∙ ap (λ (m : ℕ). m * width_of kind) (length_range 0 (members_of kind size)) ∙ wanted_of kind size

-- ---- the whole job

last_line : (f t m : List ℕ) → f ++ (t ++ (m ++ codes "data\n")) ≡ (f ++ (t ++ (m ++ codes "data"))) ++ codes "\n"
last_line f t m = split_off f t m (codes "data") (codes "\n")
  where
    split_off : (f t m d n : List ℕ) → f ++ (t ++ (m ++ (d ++ n))) ≡ (f ++ (t ++ (m ++ d))) ++ n
    split_off f t m d n = simp append_assoc refl

pub generated_is_read : (kind : Kind) (size number : ℕ) → IsSize kind size → IsReadAs (job_text kind size number) (program_of kind size) (numbers_of kind size number)
generated_is_read kind size number h =
    let p : Program = program_of kind size in
    let lines : List ℕ = lines_text (rows_of kind size number) in
    let a = read_again kind size lines h in
    let front : List ℕ = flat_map family_text p.families ++ (flat_map task_text p.tasks ++ (flat_map main_text p.mains ++ codes "data")) in
    let text : program_text kind size ≡ front ++ codes "\n" =
    sym (text_is kind size) ∙ last_line (flat_map family_text p.families) (flat_map task_text p.tasks) (flat_map main_text p.mains) in
    let job : job_text kind size number ≡ front ++ 10 ∷ lines = ap (λ (t : List ℕ). t ++ lines) text ∙ append_assoc front (codes "\n") lines in
    let end : length (program_text kind size) - 1 ≡ length front = omega (arith, ap (λ (t : List ℕ). length t) text, length-append front (codes "\n")) in
    let read : numbers (front ++ 10 ∷ lines) (length front) (inputs_of p.families) ≡ Ok (numbers_of kind size number) =
    rows_are_read front 10 (rows_of kind size number) (inputs_of p.families) (are_rows kind size number) refl (how_many kind size number) in
    record {
      program = a.program;
      from = length (program_text kind size) - 1;
      read = subst (λ (t : List ℕ). IsJob (t ++ lines) a.program (length t - 1)) (text_is kind size) a.job;
      same = a.same;
      data_given = (λ i. numbers (job i) (end i) (inputs_of p.families)) ∙ read;
    }
