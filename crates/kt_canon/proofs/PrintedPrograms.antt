-- The canonical text of a program is read as it, but for places.
use Rattle.kt_canon.proofs.Regrouped.{three_parts, four_parts, one_text, three_of}
use Rattle.std.proofs.Common.{◌≡◌, ℕ, ◌-◌, ◌<◌, ◌^◌, Bool, true, false, List, [], ◌∷◌, ◌++◌, codes, length, map, Some, None, refl, ap, sym, subst, append_assoc, arith, nat_le}
use Rattle.std.proofs.lemmas.List.{length-append}
use Rattle.std.specs.Fmt.{decimal}
use Rattle.std.specs.List.{flat_map}
use Rattle.kt_law.specs.declared.modes.Mode.{Mode}
use Rattle.kt_law.specs.declared.modes.Mode.TheVariants as M
use Rattle.kt_law.specs.declared.operators.Op.{Op}
use Rattle.kt_law.specs.declared.places.Place.{Place}
use Rattle.kt_prog.specs.declared.programs.Family.{Family}
use Rattle.kt_prog.specs.declared.programs.Main.{Main}
use Rattle.kt_prog.specs.declared.programs.Param.{Param}
use Rattle.kt_prog.specs.declared.programs.Program.{Program}
use Rattle.kt_prog.specs.declared.programs.Sort.TheVariants.{Int, One, Many}
use Rattle.kt_prog.specs.declared.programs.Stmt.{Stmt}
use Rattle.kt_prog.specs.declared.programs.Task.{Task}
use Rattle.kt_text.specs.Bytes.{is_word_byte}
use Rattle.kt_text.specs.Tokens.{Lexes}
use Rattle.kt_print.specs.CanonicalStatements.{block_text, text_of_stmt}
use Rattle.kt_print.specs.CanonicalText.{canonical_text, family_text, main_text, mode_text, param_text, params_text, task_text, where_set}
use Rattle.kt_print.specs.CanonicalWords.{op_word as op_text}
use Rattle.kt_tokens.specs.declared.tokens.Tok.{Tok}
use Rattle.kt_tokens.specs.Words.{reserved, toks_of}
use Rattle.kt_read.specs.Operators.{direct_modes, direct_of, postponed_modes, postponed_of}
use Rattle.kt_canon.specs.Placeless.{nowhere, placeless_family, placeless_main, placeless_param, placeless_stmt, placeless_task}
use Rattle.kt_read.specs.Programs.{ReadsSize, single, range, ReadsFamily, family, ReadsDirect, direct, cumulative, ReadsPostponed, postponed, postponed_cumulative, ReadsParam, int, one_direct, one_postponed, many_postponed, ReadsParams, one_param, more_params, ReadsMaybeParams, no_params, some_params, ReadsTask, task, loop, ReadsMain, main, ReadsProgram, data_word as data_end, one_family, one_task, one_main, ReadsMaybe, left_out, written}
use Rattle.kt_read.specs.Statements.{ReadsBlock, block, op_word}
use Rattle.kt_read.specs.Texts.{IsText}
use Rattle.kt_canon.specs.Laws.{IsTextAgain}
use Rattle.kt_canon.proofs.Scanned.{Scans, blank, done, lexes}
use Rattle.kt_canon.proofs.Spelled.{NoWord}
use Rattle.kt_canon.proofs.FineTokens.{AreFine, IsFreeWord, lexed_fine}
use Rattle.kt_canon.proofs.Scanning.{a_name, a_number, brace_open, comma, data_word, free_word, loop_word, main_word, object_word, op_free, op_is, paren_close, paren_open, semicolon, square_close, square_open, task_word}
use Rattle.kt_read.proofs.Spans.{apart}
use Rattle.kt_canon.proofs.Fits.{Calm, Fits, MayOpen, may_open}
use Rattle.kt_canon.proofs.PrintedExpressions.{Each, entry_each, Back, Prints, PrintsLines, at_text}
use Rattle.kt_canon.proofs.PrintedStatements.{Behind, BlockPrinted, closed, stmts_fine}
use Rattle.kt_read.proofs.Fronts.{at_front}

module _ (B E : ℕ) where
  -- ---- families

  abbrev same_thing : {A : Type 0} → A → A
  same_thing x = x

  no_word_where : (b : Bool) (c : ℕ) (word rest : List ℕ) → is_word_byte c ≡ false → NoWord rest → NoWord (where_set b (c ∷ word) ++ rest)
  no_word_where true c word rest h ends = h
  no_word_where false c word rest h ends = ends

  abbrev reads_maybe : List ℕ → Bool → List Tok → List Tok → Type 0
  reads_maybe word y ts us = ReadsMaybe word y ts us × Calm B E 0 ts us

  maybe_prints : (word : List ℕ) (b : Bool) → IsFreeWord word → Prints (reads_maybe word) same_thing b (where_set b (codes " " ++ word))
  maybe_prints word false w bytes after rest u us ends s = record { first = u; more = us; thing = false; scans = s; reads = (left_out, record { steps = λ h. h }); same = refl }
  maybe_prints word true w bytes after rest u us ends s =
      record { first = _; more = u ∷ us; thing = true; scans = blank refl refl (a_name word w ends s); reads = (written, record { steps = λ h. (refl, h) }); same = refl }

  abbrev reads_size : Bool × ℕ → List Tok → List Tok → Type 0
  reads_size x ts us = ReadsSize x.0 x.1 ts us × Calm B E 0 ts us

  abbrev members : Bool → ℕ → List ℕ
  members many m = where_set many (codes "[" ++ (decimal m ++ codes "]"))

  pub record SizePrinted (many : Bool) (m : ℕ) : Type 0 where
    prints : Prints reads_size same_thing (many, m) (members many m)

  pub single_printed : SizePrinted false 1
  single_printed = record { prints = λ bytes after rest u us ends s. record { first = u; more = us; thing = (false, 1); scans = s; reads = (single, record { steps = λ h. h }); same = refl } }

  pub range_printed : (m : ℕ) → m < 2 ^ 64 → MayOpen B E 0 → nat_le E 0 ≡ false → SizePrinted true m
  range_printed m small o few = record {
    prints = λ bytes after rest u us ends s.
        at_text (three_parts (codes "[") (decimal m) (codes "]") after)
        (record {
          first = _;
          more = _ ∷ _ ∷ u ∷ us;
          thing = (true, m);
          scans = square_open (a_number m small refl (square_close s));
          reads = (range, record { steps = λ h. (o, (few, (refl, h))) });
          same = refl;
        });
  }

  size_fine : {many : Bool} {m : ℕ} {ts us : List Tok} → ReadsSize many m ts us → AreFine ts → Fits B E (apart 0) ts → Behind B E 0 us × SizePrinted many m
  size_fine single f fits = (record { fine = f; fits = fits }, single_printed)
  size_fine (range {m}) f fits = (record { fine = f.1.1.1; fits = fits.1.1.1 }, range_printed m f.1.0 fits.0 fits.1.0)

  abbrev reads_family : Family → List Tok → List Tok → Type 0
  reads_family y ts us = ReadsFamily y ts us × Calm B E 0 ts us

  pub record FamilyPrinted (f : Family) : Type 0 where
    prints : PrintsLines reads_family placeless_family f (family_text f)

  of_free : IsFreeWord (codes "of")
  unfolding reserved
  of_free = free_word (codes "of") refl refl

  input_free : IsFreeWord (codes "input")
  unfolding reserved
  input_free = free_word (codes "input") refl refl

  output_free : IsFreeWord (codes "output")
  unfolding reserved
  output_free = free_word (codes "output") refl refl

  family_parts : (a b c d e f g h k z : List ℕ) → a ++ (b ++ (c ++ (d ++ (e ++ (f ++ (g ++ (h ++ (k ++ z)))))))) ≡ ((a ++ (b ++ (c ++ (d ++ (e ++ (f ++ (g ++ h))))))) ++ k) ++ z
  family_parts a b c d e f g h k z = simp append_assoc refl

  pub family_printed : (n : List ℕ) (p : Place) (many input output : Bool) (m k : ℕ) → IsFreeWord n → k < 2 ^ 64 → SizePrinted many m →
      FamilyPrinted (record { name = n; place = p; many = many; members = m; elements = k; input = input; output = output })
  family_printed n p many input output m k w small size = record {
    prints = λ bytes after rest u us s.
        let behind : List ℕ = where_set output (codes " output") ++ (codes ";\n" ++ after) in
        let z = maybe_prints (codes "output") output output_free bytes (codes ";\n" ++ after) rest _ (u ∷ us) refl (semicolon (blank refl refl s)) in
        let y = maybe_prints (codes "input") input input_free bytes behind rest _ _ (no_word_where output 32 (codes "output") (codes ";\n" ++ after) refl refl) z.scans in
        let number = a_number k small (no_word_where input 32 (codes "input") behind refl (no_word_where output 32 (codes "output") (codes ";\n" ++ after) refl refl)) y.scans in
        let of = a_name (codes "of") of_free refl (blank refl refl number) in
        let sized : List ℕ = codes " of " ++ (decimal k ++ (where_set input (codes " input") ++ behind)) in
        let x = size.prints bytes sized rest _ _ refl (blank refl refl of) in
        at_text (family_parts (codes "object ") n (members many m) (codes " of ") (decimal k) (where_set input (codes " input")) (where_set output (codes " output")) (codes ";") (codes "\n") after)
        (record {
          first = _;
          more = _ ∷ x.first ∷ x.more;
          thing = record { name = n; place = _; many = x.thing.0; members = x.thing.1; elements = k; input = y.thing; output = z.thing };
          scans = object_word refl (blank refl refl (a_name n w (no_word_where many 91 (decimal m ++ codes "]") sized refl refl) x.scans));
          reads = (family x.reads.0 y.reads.0 z.reads.0, record { steps = λ h. (refl, (refl, x.reads.1.steps (refl, (refl, y.reads.1.steps (z.reads.1.steps (refl, h)))))) });
          same = λ i. record { name = n; place = nowhere; many = (x.same i).0; members = (x.same i).1; elements = k; input = y.same i; output = z.same i };
        });
  }

  maybe_fine : {word : List ℕ} {b : Bool} {ts us : List Tok} → ReadsMaybe word b ts us → Behind B E 0 ts → Behind B E 0 us
  maybe_fine left_out x = x
  maybe_fine written x = record { fine = x.fine.1; fits = x.fits.1 }

  family_fine : {x : Family} {ts us : List Tok} → ReadsFamily x ts us → AreFine ts → Fits B E (apart 0) ts → Behind B E 0 us × FamilyPrinted x
  family_fine (family {n} {q} {many} {input} {output} {m} {k} r i o) f fits =
      let x = size_fine r f.1.1 fits.1.1 in
      let last = maybe_fine o (maybe_fine i (record { fine = x.0.fine.1.1; fits = x.0.fits.1.1 })) in
      (record { fine = last.fine.1; fits = last.fits.1 }, family_printed n q many input output m k f.1.0 x.0.fine.1.0 x.1)

  -- ---- modes

  abbrev IsPlainDirect : Mode → Type 0
  IsPlainDirect M.R = Unit {0}
  IsPlainDirect M.W = Unit {0}
  IsPlainDirect M.X = Unit {0}
  IsPlainDirect _ = ⊥

  abbrev IsPlainPostponed : Mode → Type 0
  IsPlainPostponed M.Rp = Unit {0}
  IsPlainPostponed M.Wp = Unit {0}
  IsPlainPostponed M.Xp = Unit {0}
  IsPlainPostponed _ = ⊥

  direct_is : (word : List ℕ) (mode : Mode) → direct_of word ≡ Some mode → IsPlainDirect mode
  unfolding direct_of
  direct_is word mode e = entry_each IsPlainDirect direct_modes word mode (tt, (tt, (tt, tt))) e

  postponed_is : (word : List ℕ) (mode : Mode) → postponed_of word ≡ Some mode → IsPlainPostponed mode
  unfolding postponed_of
  postponed_is word mode e = entry_each IsPlainPostponed postponed_modes word mode (tt, (tt, (tt, tt))) e

  abbrev reads_direct : Mode → List Tok → List Tok → Type 0
  reads_direct y ts us = ReadsDirect y ts us × Calm B E 1 ts us

  abbrev reads_postponed : Mode → List Tok → List Tok → Type 0
  reads_postponed y ts us = ReadsPostponed y ts us × Calm B E 1 ts us

  pub record DirectPrinted (mode : Mode) : Type 0 where
    prints : Prints reads_direct same_thing mode (mode_text mode)

  pub record PostponedPrinted (mode : Mode) : Type 0 where
    prints : Prints reads_postponed same_thing mode (mode_text mode)

  a_direct : (word : List ℕ) (mode : Mode) → IsFreeWord word → direct_of word ≡ Some mode → mode_text mode ≡ word → DirectPrinted mode
  a_direct word mode w is text = record {
    prints = λ bytes after rest u us ends s.
        at_text (ap (λ (t : List ℕ). t ++ after) (sym text)) (record { first = _; more = u ∷ us; thing = mode; scans = a_name word w ends s; reads = (direct is, record { steps = λ h. (refl, h) }); same = refl });
  }

  a_postponed : (word : List ℕ) (mode : Mode) → IsFreeWord word → postponed_of word ≡ Some mode → mode_text mode ≡ word → PostponedPrinted mode
  a_postponed word mode w is text = record {
    prints = λ bytes after rest u us ends s.
        at_text (ap (λ (t : List ℕ). t ++ after) (sym text)) (record { first = _; more = u ∷ us; thing = mode; scans = a_name word w ends s; reads = (postponed is, record { steps = λ h. (refl, h) }); same = refl });
  }

  pub plain_direct : (mode : Mode) → IsPlainDirect mode → DirectPrinted mode
  unfolding reserved direct_of
  plain_direct M.R h = a_direct (codes "r") M.R (free_word (codes "r") refl refl) refl refl
  plain_direct M.W h = a_direct (codes "w") M.W (free_word (codes "w") refl refl) refl refl
  plain_direct M.X h = a_direct (codes "x") M.X (free_word (codes "x") refl refl) refl refl
  plain_direct (M.Cw op) h = absurd h
  plain_direct M.Rp h = absurd h
  plain_direct M.Wp h = absurd h
  plain_direct M.Xp h = absurd h
  plain_direct (M.Cwp op) h = absurd h

  plain_postponed : (mode : Mode) → IsPlainPostponed mode → PostponedPrinted mode
  unfolding reserved postponed_of
  plain_postponed M.Rp h = a_postponed (codes "rp") M.Rp (free_word (codes "rp") refl refl) refl refl
  plain_postponed M.Wp h = a_postponed (codes "wp") M.Wp (free_word (codes "wp") refl refl) refl refl
  plain_postponed M.Xp h = a_postponed (codes "xp") M.Xp (free_word (codes "xp") refl refl) refl refl
  plain_postponed (M.Cwp op) h = absurd h
  plain_postponed M.R h = absurd h
  plain_postponed M.W h = absurd h
  plain_postponed M.X h = absurd h
  plain_postponed (M.Cw op) h = absurd h

  cw_free : IsFreeWord (codes "cw")
  unfolding reserved
  cw_free = free_word (codes "cw") refl refl

  cwp_free : IsFreeWord (codes "cwp")
  unfolding reserved
  cwp_free = free_word (codes "cwp") refl refl

  pub cw_printed : (op : Op) → MayOpen B E 1 → DirectPrinted (M.Cw op)
  cw_printed op o = record {
    prints = λ bytes after rest u us ends s.
        at_text (three_parts (codes "cw(") (op_text op) (codes ")") after)
        (record {
          first = _;
          more = _ ∷ _ ∷ _ ∷ u ∷ us;
          thing = M.Cw op;
          scans = a_name (codes "cw") cw_free refl (paren_open (a_name (op_text op) (op_free op) refl (paren_close s)));
          reads = (cumulative (op_word (op_is op)), record { steps = λ h. (refl, (o, (refl, (refl, h)))) });
          same = refl;
        });
  }

  cwp_printed : (op : Op) → MayOpen B E 1 → PostponedPrinted (M.Cwp op)
  cwp_printed op o = record {
    prints = λ bytes after rest u us ends s.
        at_text (three_parts (codes "cwp(") (op_text op) (codes ")") after)
        (record {
          first = _;
          more = _ ∷ _ ∷ _ ∷ u ∷ us;
          thing = M.Cwp op;
          scans = a_name (codes "cwp") cwp_free refl (paren_open (a_name (op_text op) (op_free op) refl (paren_close s)));
          reads = (postponed_cumulative (op_word (op_is op)), record { steps = λ h. (refl, (o, (refl, (refl, h)))) });
          same = refl;
        });
  }

  direct_fine : {mode : Mode} {ts us : List Tok} → ReadsDirect mode ts us → AreFine ts → Fits B E (apart 1) ts → Behind B E 1 us × DirectPrinted mode
  direct_fine (direct {n} {mode} is) f fits = (record { fine = f.1; fits = fits.1 }, plain_direct mode (direct_is n mode is))
  direct_fine (cumulative {op} (op_word h)) f fits = (record { fine = f.1.1.1.1; fits = fits.1.1.1.1 }, cw_printed op fits.1.0)

  postponed_fine : {mode : Mode} {ts us : List Tok} → ReadsPostponed mode ts us → AreFine ts → Fits B E (apart 1) ts → Behind B E 1 us × PostponedPrinted mode
  postponed_fine (postponed {n} {mode} is) f fits = (record { fine = f.1; fits = fits.1 }, plain_postponed mode (postponed_is n mode is))
  postponed_fine (postponed_cumulative {op} (op_word h)) f fits = (record { fine = f.1.1.1.1; fits = fits.1.1.1.1 }, cwp_printed op fits.1.0)

  -- ---- parameters

  abbrev reads_param : Param → List Tok → List Tok → Type 0
  reads_param y ts us = ReadsParam y ts us × Calm B E 1 ts us

  abbrev reads_params : List Param → List Tok → List Tok → Type 0
  reads_params y ts us = ReadsParams y ts us × Calm B E 1 ts us

  pub record ParamPrinted (a : Param) : Type 0 where
    prints : Prints reads_param placeless_param a (param_text a)

  pub record ParamsPrinted (params : List Param) : Type 0 where
    prints : Prints reads_params (map placeless_param) params (params_text [] params)

  int_free : IsFreeWord (codes "int")
  unfolding reserved
  int_free = free_word (codes "int") refl refl

  pub int_printed : (n : List ℕ) (p q : Place) → IsFreeWord n → ParamPrinted (record { place = p; name = n; name_place = q; sort = Int })
  int_printed n p q w = record {
    prints = λ bytes after rest u us ends s.
        record {
          first = _;
          more = _ ∷ u ∷ us;
          thing = record { place = _; name = n; name_place = _; sort = Int };
          scans = a_name (codes "int") int_free refl (blank refl refl (a_name n w ends s));
          reads = (int, record { steps = λ h. (refl, (refl, h)) });
          same = refl;
        };
  }

  pub direct_printed : (n : List ℕ) (p q : Place) (mode : Mode) → IsFreeWord n → DirectPrinted mode → ParamPrinted (record { place = p; name = n; name_place = q; sort = One mode })
  direct_printed n p q mode w d = record {
    prints = λ bytes after rest u us ends s.
        let x = d.prints bytes (codes " " ++ (n ++ after)) rest _ (u ∷ us) refl (blank refl refl (a_name n w ends s)) in
        at_text (three_parts (mode_text mode) (codes " ") n after)
        (record {
          first = x.first;
          more = x.more;
          thing = record { place = x.first.place; name = n; name_place = _; sort = One x.thing };
          scans = x.scans;
          reads = (one_direct x.reads.0, record { steps = λ h. x.reads.1.steps (refl, h) });
          same = λ i. record { place = nowhere; name = n; name_place = nowhere; sort = One (x.same i) };
        });
  }

  postponed_printed : (n : List ℕ) (p q : Place) (mode : Mode) → IsFreeWord n → PostponedPrinted mode → ParamPrinted (record { place = p; name = n; name_place = q; sort = One mode })
  postponed_printed n p q mode w d = record {
    prints = λ bytes after rest u us ends s.
        let x = d.prints bytes (codes " " ++ (n ++ after)) rest _ (u ∷ us) refl (blank refl refl (a_name n w ends s)) in
        at_text (three_parts (mode_text mode) (codes " ") n after)
        (record {
          first = x.first;
          more = x.more;
          thing = record { place = x.first.place; name = n; name_place = _; sort = One x.thing };
          scans = x.scans;
          reads = (one_postponed x.reads.0, record { steps = λ h. x.reads.1.steps (refl, h) });
          same = λ i. record { place = nowhere; name = n; name_place = nowhere; sort = One (x.same i) };
        });
  }

  many_printed : (n : List ℕ) (p q : Place) (mode : Mode) → IsFreeWord n → MayOpen B E 1 → PostponedPrinted mode → ParamPrinted (record { place = p; name = n; name_place = q; sort = Many mode })
  many_printed n p q mode w o d = record {
    prints = λ bytes after rest u us ends s.
        let x = d.prints bytes (codes " " ++ (n ++ (codes "[]" ++ after))) rest _ _ refl (blank refl refl (a_name n w refl (square_open (square_close s)))) in
        at_text (four_parts (mode_text mode) (codes " ") n (codes "[]") after)
        (record {
          first = x.first;
          more = x.more;
          thing = record { place = x.first.place; name = n; name_place = _; sort = Many x.thing };
          scans = x.scans;
          reads = (many_postponed x.reads.0, record { steps = λ h. x.reads.1.steps (refl, (o, (refl, h))) });
          same = λ i. record { place = nowhere; name = n; name_place = nowhere; sort = Many (x.same i) };
        });
  }

  param_fine : {a : Param} {ts us : List Tok} → ReadsParam a ts us → AreFine ts → Fits B E (apart 1) ts → Behind B E 1 us × ParamPrinted a
  param_fine (int {n} {p} {q}) f fits = (record { fine = f.1.1; fits = fits.1.1 }, int_printed n p q f.1.0)
  param_fine (one_direct {n} {q} {t} {mode} r) f fits =
      let x = direct_fine r f fits in (record { fine = x.0.fine.1; fits = x.0.fits.1 }, direct_printed n t.place q mode x.0.fine.0 x.1)
  param_fine (one_postponed {n} {q} {t} {mode} r) f fits =
      let x = postponed_fine r f fits in (record { fine = x.0.fine.1; fits = x.0.fits.1 }, postponed_printed n t.place q mode x.0.fine.0 x.1)
  param_fine (many_postponed {n} {q} {t} {mode} r) f fits =
      let x = postponed_fine r f fits in
      (record { fine = x.0.fine.1.1.1; fits = x.0.fits.1.1.1 }, many_printed n t.place q mode x.0.fine.0 x.0.fits.1.0 x.1)

  led : {params : List Param} {ts us : List Tok} (lead : List ℕ) → ReadsParams params ts us → params_text lead params ≡ lead ++ params_text [] params
  led lead (one_param r) = refl
  led lead (more_params r rs) = refl

  pub one_printed : (a : Param) → ParamPrinted a → ParamsPrinted (a ∷ [])
  one_printed a p = record {
    prints = λ bytes after rest u us ends s.
        let b = p.prints bytes after rest u us ends s in
        at_text (one_text (param_text a) after)
        (record { first = b.first; more = b.more; thing = b.thing ∷ []; scans = b.scans; reads = (one_param b.reads.0, b.reads.1); same = ap (λ (x : Param). x ∷ []) b.same });
  }

  pub more_printed : (a : Param) (params : List Param) → params_text (codes ", ") params ≡ codes ", " ++ params_text [] params → ParamPrinted a → ParamsPrinted params → ParamsPrinted (a ∷ params)
  more_printed a params lead p ps = record {
    prints = λ bytes after rest u us ends s.
        let y = ps.prints bytes after rest u us ends s in
        let x = p.prints bytes (codes ", " ++ (params_text [] params ++ after)) rest _ (y.first ∷ y.more) refl (comma (blank refl refl y.scans)) in
        at_text (three_of (param_text a) (codes ", ") (params_text [] params) (params_text (codes ", ") params) after lead)
        (record { first = x.first; more = x.more; thing = x.thing ∷ y.thing; scans = x.scans; reads = (more_params x.reads.0 y.reads.0, record { steps = λ h. x.reads.1.steps (refl, y.reads.1.steps h) }); same = λ i. x.same i ∷ y.same i });
  }

  params_fine : {params : List Param} {ts us : List Tok} → ReadsParams params ts us → AreFine ts → Fits B E (apart 1) ts → Behind B E 1 us × ParamsPrinted params
  params_fine (one_param {a} r) f fits = let x = param_fine r f fits in (x.0, one_printed a x.1)
  params_fine (more_params {a} {params} r rs) f fits =
      let x = param_fine r f fits in let y = params_fine rs x.0.fine.1 x.0.fits.1 in (y.0, more_printed a params (led (codes ", ") rs) x.1 y.1)

  abbrev reads_maybe_params : List Param → List Tok → List Tok → Type 0
  reads_maybe_params y ts us = ReadsMaybeParams y ts us × Calm B E 1 ts us

  -- parameters that may be missing, behind nothing or a blank
  pub record MaybePrinted (params : List Param) : Type 0 where
    plain : Prints reads_maybe_params (map placeless_param) params (params_text [] params)
    spaced : Prints reads_maybe_params (map placeless_param) params (params_text (codes " ") params)

  pub none_printed : MaybePrinted []
  none_printed = record {
    plain = λ bytes after rest u us ends s. record { first = u; more = us; thing = []; scans = s; reads = (no_params, record { steps = λ h. h }); same = refl };
    spaced = λ bytes after rest u us ends s. record { first = u; more = us; thing = []; scans = s; reads = (no_params, record { steps = λ h. h }); same = refl };
  }

  pub some_printed : (params : List Param) → params_text (codes " ") params ≡ codes " " ++ params_text [] params → ParamsPrinted params → MaybePrinted params
  some_printed params lead p = record {
    plain = λ bytes after rest u us ends s.
        let b = p.prints bytes after rest u us ends s in
        record { first = b.first; more = b.more; thing = b.thing; scans = b.scans; reads = (some_params b.reads.0, b.reads.1); same = b.same };
    spaced = λ bytes after rest u us ends s.
        let b = p.prints bytes after rest u us ends s in
        at_text (ap (λ (text : List ℕ). text ++ after) (sym lead))
        (record { first = b.first; more = b.more; thing = b.thing; scans = blank refl refl b.scans; reads = (some_params b.reads.0, b.reads.1); same = b.same });
  }

  maybe_params_fine : {params : List Param} {ts us : List Tok} → ReadsMaybeParams params ts us → AreFine ts → Fits B E (apart 1) ts → Behind B E 1 us × MaybePrinted params
  maybe_params_fine no_params f fits = (record { fine = f; fits = fits }, none_printed)
  maybe_params_fine (some_params {params} r) f fits = let x = params_fine r f fits in (x.0, some_printed params (led (codes " ") r) x.1)

  -- ---- tasks, loops and `main`

  abbrev reads_task : Task → List Tok → List Tok → Type 0
  reads_task y ts us = ReadsTask y ts us × Calm B E 0 ts us

  abbrev reads_main : Main → List Tok → List Tok → Type 0
  reads_main y ts us = ReadsMain y ts us × Calm B E 0 ts us

  abbrev reads_block : List Stmt → List Tok → List Tok → Type 0
  reads_block y ts us = ReadsBlock y ts us × Calm B E 0 ts us

  pub record TaskPrinted (t : Task) : Type 0 where
    prints : PrintsLines reads_task placeless_task t (task_text t)

  pub record MainPrinted (m : Main) : Type 0 where
    prints : PrintsLines reads_main placeless_main m (main_text m)

  -- the blocks of a body
  body_scans : (body : List Stmt) → MayOpen B E 0 → BlockPrinted B E 1 body → (bytes after rest : List ℕ) (u : Tok) (us : List Tok) → Scans bytes after (u ∷ us) rest →
      Back reads_block (map placeless_stmt) body bytes (codes "{\n" ++ (block_text (map text_of_stmt body) 0 ++ (codes "}\n" ++ after))) rest (u ∷ us)
  body_scans body o p bytes after rest u us s =
      let z = p.prints 0 bytes (codes "}\n" ++ after) rest _ (u ∷ us) (closed B E 0 s) in
      record { first = _; more = z.first ∷ z.more; thing = z.thing; scans = brace_open (blank refl refl z.scans); reads = (block z.reads.0, record { steps = λ h. (o, z.reads.1.steps (refl, h)) }); same = z.same }

  task_parts : (a b c d e f g h k z : List ℕ) → a ++ (b ++ (c ++ (d ++ (e ++ (f ++ (g ++ (h ++ (k ++ z))))))))
      ≡ (((((a ++ (b ++ (c ++ d))) ++ e) ++ f) ++ g) ++ (h ++ k)) ++ z
  task_parts a b c d e f g h k z = simp append_assoc refl

  pub task_printed : (n : List ℕ) (p : Place) (params : List Param) (body : List Stmt) → IsFreeWord n → MayOpen B E 0 → MaybePrinted params → BlockPrinted B E 1 body →
      TaskPrinted (record { name = n; place = p; index = None; params = params; body = body })
  task_printed n p params body w o pp pb = record {
    prints = λ bytes after rest u us s.
        let inner : List ℕ = block_text (map text_of_stmt body) 0 in
        let y = body_scans body o pb bytes after rest u us s in
        let x = pp.plain bytes (codes ") {\n" ++ (inner ++ (codes "}\n" ++ after))) rest _ _ refl (paren_close (blank refl refl y.scans)) in
        at_text (task_parts (codes "task ") n (codes "(") (params_text [] params) (codes ")") (codes " {") (codes "\n") inner (codes "}\n") after)
        (record {
          first = _;
          more = _ ∷ _ ∷ x.first ∷ x.more;
          thing = record { name = n; place = _; index = None; params = x.thing; body = y.thing };
          scans = task_word refl (blank refl refl (a_name n w refl (paren_open x.scans)));
          reads = (task x.reads.0 y.reads.0, record { steps = λ h. (refl, (refl, (o, x.reads.1.steps (refl, y.reads.1.steps h)))) });
          same = λ i. record { name = n; place = nowhere; index = None; params = x.same i; body = y.same i };
        });
  }

  loop_parts : (a b c i j d e f g h k z : List ℕ) → a ++ (b ++ (c ++ (i ++ (j ++ (d ++ (e ++ (f ++ (g ++ (h ++ (k ++ z))))))))))
      ≡ (((((a ++ (b ++ (c ++ (i ++ (j ++ d))))) ++ e) ++ f) ++ g) ++ (h ++ k)) ++ z
  loop_parts a b c i j d e f g h k z = simp append_assoc refl

  no_word_params : (params : List Param) (rest : List ℕ) → NoWord rest → NoWord (params_text (codes " ") params ++ rest)
  no_word_params [] rest ends = ends
  no_word_params (a ∷ params) rest ends = refl

  pub loop_printed : (n i : List ℕ) (p q : Place) (params : List Param) (body : List Stmt) → IsFreeWord n → IsFreeWord i → MayOpen B E 0 → MaybePrinted params → BlockPrinted B E 1 body →
      TaskPrinted (record { name = n; place = p; index = Some (record { name = i; place = q }); params = params; body = body })
  loop_printed n i p q params body w v o pp pb = record {
    prints = λ bytes after rest u us s.
        let inner : List ℕ = block_text (map text_of_stmt body) 0 in
        let y = body_scans body o pb bytes after rest u us s in
        let x = pp.spaced bytes (codes ") {\n" ++ (inner ++ (codes "}\n" ++ after))) rest _ _ refl (paren_close (blank refl refl y.scans)) in
        at_text (loop_parts (codes "loop ") n (codes "(") i (codes ";") (params_text (codes " ") params) (codes ")") (codes " {") (codes "\n") inner (codes "}\n") after)
        (record {
          first = _;
          more = _ ∷ _ ∷ _ ∷ _ ∷ x.first ∷ x.more;
          thing = record { name = n; place = _; index = Some (record { name = i; place = _ }); params = x.thing; body = y.thing };
          scans = loop_word refl (blank refl refl (a_name n w refl (paren_open (a_name i v refl (semicolon x.scans)))));
          reads = (loop x.reads.0 y.reads.0, record { steps = λ h. (refl, (refl, (o, (refl, (refl, x.reads.1.steps (refl, y.reads.1.steps h)))))) });
          same = λ k. record { name = n; place = nowhere; index = Some (record { name = i; place = nowhere }); params = x.same k; body = y.same k };
        });
  }

  main_parts : (a f g h k z : List ℕ) → a ++ (f ++ (g ++ (h ++ (k ++ z)))) ≡ (((a ++ f) ++ g) ++ (h ++ k)) ++ z
  main_parts a f g h k z = simp append_assoc refl

  pub main_printed : (p : Place) (body : List Stmt) → MayOpen B E 0 → BlockPrinted B E 1 body → MainPrinted (record { place = p; body = body })
  main_printed p body o pb = record {
    prints = λ bytes after rest u us s.
        let inner : List ℕ = block_text (map text_of_stmt body) 0 in
        let y = body_scans body o pb bytes after rest u us s in
        at_text (main_parts (codes "main") (codes " {") (codes "\n") inner (codes "}\n") after)
        (record {
          first = _;
          more = y.first ∷ y.more;
          thing = record { place = _; body = y.thing };
          scans = main_word refl (blank refl refl y.scans);
          reads = (main y.reads.0, record { steps = λ h. (refl, y.reads.1.steps h) });
          same = λ i. record { place = nowhere; body = y.same i };
        });
  }

  task_fine : {t : Task} {ts us : List Tok} → ReadsTask t ts us → AreFine ts → Fits B E (apart 0) ts → Behind B E 0 us × TaskPrinted t
  task_fine (task {n} {q} {params} {stmts} r (block b)) f fits =
      let x = maybe_params_fine r f.1.1.1 fits.1.1.1 in
      let y = stmts_fine B E 1 (may_open B E 0 fits.1.1.0) b x.0.fine.1.1 x.0.fits.1.1 in
      (record { fine = y.0.fine.1; fits = y.0.fits.1 }, task_printed n q params stmts f.1.0 fits.1.1.0 x.1 y.1)
  task_fine (loop {n} {i} {q} {s} {params} {stmts} r (block b)) f fits =
      let x = maybe_params_fine r f.1.1.1.1.1 fits.1.1.1.1.1 in
      let y = stmts_fine B E 1 (may_open B E 0 fits.1.1.0) b x.0.fine.1.1 x.0.fits.1.1 in
      (record { fine = y.0.fine.1; fits = y.0.fits.1 }, loop_printed n i q s params stmts f.1.0 f.1.1.1.0 fits.1.1.0 x.1 y.1)

  main_fine : {m : Main} {ts us : List Tok} → ReadsMain m ts us → AreFine ts → Fits B E (apart 0) ts → Behind B E 0 us × MainPrinted m
  main_fine (main {p} {stmts} (block b)) f fits =
      let y = stmts_fine B E 1 (may_open B E 0 fits.1.0) b f.1.1 fits.1.1 in
      (record { fine = y.0.fine.1; fits = y.0.fits.1 }, main_printed p stmts fits.1.0 y.1)

  -- ---- programs

  pub record ProgramPrinted (p : Program) : Type 0 where
    pub families : Each FamilyPrinted p.families
    pub tasks : Each TaskPrinted p.tasks
    pub mains : Each MainPrinted p.mains

  program_fine : {p : Program} {ts us : List Tok} → ReadsProgram p ts us → AreFine ts → Fits B E (apart 0) ts → ProgramPrinted p
  program_fine data_end f fits = record { families = tt; tasks = tt; mains = tt }
  program_fine (one_family r rs) f fits =
      let x = family_fine r f fits in let ps = program_fine rs x.0.fine x.0.fits in record { families = (x.1, ps.families); tasks = ps.tasks; mains = ps.mains }
  program_fine (one_task r rs) f fits =
      let x = task_fine r f fits in let ps = program_fine rs x.0.fine x.0.fits in record { families = ps.families; tasks = (x.1, ps.tasks); mains = ps.mains }
  program_fine (one_main r rs) f fits =
      let x = main_fine r f fits in let ps = program_fine rs x.0.fine x.0.fits in record { families = ps.families; tasks = ps.tasks; mains = (x.1, ps.mains) }

  -- a text that is read as a program of these parts, but for places
  record ProgramBack (families : List Family) (tasks : List Task) (mains : List Main) (bytes text rest : List ℕ) : Type 0 where
    first : Tok
    more : List Tok
    program : Program
    scans : Scans bytes text (first ∷ more) rest
    reads : ReadsProgram program (first ∷ more) []
    fits : Fits B E (apart 0) (first ∷ more)
    same_families : map placeless_family families ≡ map placeless_family program.families
    same_tasks : map placeless_task tasks ≡ map placeless_task program.tasks
    same_mains : map placeless_main mains ≡ map placeless_main program.mains

  data_back : (bytes behind : List ℕ) → ProgramBack [] [] [] bytes (codes "data\n" ++ behind) (codes "\n" ++ behind)
  data_back bytes behind = record {
    first = _;
    more = [];
    program = record { families = []; tasks = []; mains = []; end = _ };
    scans = data_word refl done;
    reads = data_end;
    fits = (refl, tt);
    same_families = refl;
    same_tasks = refl;
    same_mains = refl;
  }

  mains_back : (bytes text rest : List ℕ) (mains : List Main) → Each MainPrinted mains → ProgramBack [] [] [] bytes text rest →
      ProgramBack [] [] mains bytes (flat_map main_text mains ++ text) rest
  mains_back bytes text rest [] ps b = b
  mains_back bytes text rest (m ∷ mains) ps b =
      let y = mains_back bytes text rest mains ps.1 b in
      let x = ps.0.prints bytes (flat_map main_text mains ++ text) rest y.first y.more y.scans in
      record {
        first = x.first;
        more = x.more;
        program = record { families = y.program.families; tasks = y.program.tasks; mains = x.thing ∷ y.program.mains; end = y.program.end };
        scans = subst (λ (t : List ℕ). Scans bytes t (x.first ∷ x.more) rest) (sym (append_assoc (main_text m) (flat_map main_text mains) text)) x.scans;
        reads = one_main x.reads.0 y.reads;
        fits = x.reads.1.steps y.fits;
        same_families = y.same_families;
        same_tasks = y.same_tasks;
        same_mains = λ i. x.same i ∷ y.same_mains i;
      }

  tasks_back : (bytes text rest : List ℕ) (tasks : List Task) (mains : List Main) → Each TaskPrinted tasks → ProgramBack [] [] mains bytes text rest →
      ProgramBack [] tasks mains bytes (flat_map task_text tasks ++ text) rest
  tasks_back bytes text rest [] mains ps b = b
  tasks_back bytes text rest (t ∷ tasks) mains ps b =
      let y = tasks_back bytes text rest tasks mains ps.1 b in
      let x = ps.0.prints bytes (flat_map task_text tasks ++ text) rest y.first y.more y.scans in
      record {
        first = x.first;
        more = x.more;
        program = record { families = y.program.families; tasks = x.thing ∷ y.program.tasks; mains = y.program.mains; end = y.program.end };
        scans = subst (λ (t : List ℕ). Scans bytes t (x.first ∷ x.more) rest) (sym (append_assoc (task_text t) (flat_map task_text tasks) text)) x.scans;
        reads = one_task x.reads.0 y.reads;
        fits = x.reads.1.steps y.fits;
        same_families = y.same_families;
        same_tasks = λ i. x.same i ∷ y.same_tasks i;
        same_mains = y.same_mains;
      }

  families_back : (bytes text rest : List ℕ) (families : List Family) (tasks : List Task) (mains : List Main) → Each FamilyPrinted families →
      ProgramBack [] tasks mains bytes text rest → ProgramBack families tasks mains bytes (flat_map family_text families ++ text) rest
  families_back bytes text rest [] tasks mains ps b = b
  families_back bytes text rest (f ∷ families) tasks mains ps b =
      let y = families_back bytes text rest families tasks mains ps.1 b in
      let x = ps.0.prints bytes (flat_map family_text families ++ text) rest y.first y.more y.scans in
      record {
        first = x.first;
        more = x.more;
        program = record { families = x.thing ∷ y.program.families; tasks = y.program.tasks; mains = y.program.mains; end = y.program.end };
        scans = subst (λ (t : List ℕ). Scans bytes t (x.first ∷ x.more) rest) (sym (append_assoc (family_text f) (flat_map family_text families) text)) x.scans;
        reads = one_family x.reads.0 y.reads;
        fits = x.reads.1.steps y.fits;
        same_families = λ i. x.same i ∷ y.same_families i;
        same_tasks = y.same_tasks;
        same_mains = y.same_mains;
      }

  -- the canonical text before other bytes, by its lists of declarations
  before : (f t m d behind : List ℕ) → f ++ (t ++ (m ++ (d ++ behind))) ≡ (f ++ (t ++ (m ++ d))) ++ behind
  before f t m d behind = simp append_assoc refl

  program_back : (p : Program) (behind : List ℕ) → ProgramPrinted p →
      ProgramBack p.families p.tasks p.mains (canonical_text p ++ behind) (canonical_text p ++ behind) (codes "\n" ++ behind)
  program_back p behind ps =
      let bytes : List ℕ = canonical_text p ++ behind in
      let ends : List ℕ = codes "data\n" ++ behind in
      let rest : List ℕ = codes "\n" ++ behind in
      let back = families_back bytes (flat_map task_text p.tasks ++ (flat_map main_text p.mains ++ ends)) rest p.families p.tasks p.mains ps.families
      (tasks_back bytes (flat_map main_text p.mains ++ ends) rest p.tasks p.mains ps.tasks
      (mains_back bytes ends rest p.mains ps.mains (data_back bytes behind))) in
      subst (λ (text : List ℕ). ProgramBack p.families p.tasks p.mains bytes text rest)
      (before (flat_map family_text p.families) (flat_map task_text p.tasks) (flat_map main_text p.mains) (codes "data\n") behind) back

  -- the canonical text is a text of the same program but for places, whatever stands behind it, and its tokens fit
  pub record Again (p : Program) (behind : List ℕ) : Type 0 where
    pub text : IsTextAgain p behind
    pub fits : Fits B E (apart 0) (toks_of (canonical_text p ++ behind) text.text.tokens)

  pub text_again : (p : Program) (behind : List ℕ) → ProgramPrinted p → Again p behind
  text_again p behind ps =
      let bytes : List ℕ = canonical_text p ++ behind in
      let b = program_back p behind ps in
      let l = lexes bytes [] bytes (codes "\n" ++ behind) (b.first ∷ b.more) refl b.scans in
      let stop : l.stop ≡ length (canonical_text p) - 1 = omega (arith, l.left, length-append (canonical_text p) behind) in
      record {
        text = record {
          program = b.program;
          text = record {
            tokens = l.tokens;
            lexed = subst (λ (stop : ℕ). Lexes bytes 0 l.tokens stop) stop l.lexed;
            derived = at_front ReadsProgram l.are b.reads;
          };
          same = λ i. record { families = b.same_families i; tasks = b.same_tasks i; mains = b.same_mains i; end = nowhere };
        };
        fits = subst (λ (toks : List Tok). Fits B E (apart 0) toks) (sym l.are) b.fits;
      }

  pub again : (bytes : List ℕ) (p : Program) (from : ℕ) (behind : List ℕ) (t : IsText bytes p from) → Fits B E (apart 0) (toks_of bytes t.tokens) → Again p behind
  again bytes p from behind t fits = text_again p behind (program_fine t.derived (lexed_fine bytes 0 from t.tokens t.lexed) fits)
