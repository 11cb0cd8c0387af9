-- Walk one: it passes over whole records that pass, and stops at the first that fails. Assumes nothing.
use Rattle.std.proofs.Common.{◌≡◌, ℕ, zero, suc, ◌+◌, ◌*◌, ◌≤◌, Bool, true, false, cond, ltb, List, [], ◌∷◌, ◌++◌, length, get_or, take, drop, Some, None, Ok, Err, Option, Result, unwrap_or, sym, refl, ap, ◌∙◌, subst, add-zero, arith}
use Rattle.std.proofs.lemmas.List.{append_assoc, append-nil, length-append, length-take-le, length-drop, take-append-drop, take_at, drop_at, get_or_append_left}
use Rattle.std.proofs.lemmas.Bool.{le-ltb, ltb-false}
use Rattle.std.specs.List.{flat_map}
use Rattle.std.specs.Option.{option_map}
use Rattle.charts.specs.Pages.{Shapes}
use Rattle.charts.specs.Loading.{Fault, Raw, raw_bytes, Met, nothing_met, misplaced, over, fault_one, then_met, after_record, walk_one, is_block, body_length, reached, met_output, kinds_in, with_blocks, after_one, load}

-- a whole record that passes behind what was met
pub record Pass (shapes : Shapes) (limit : ℕ) (met : Met) (r : Raw) : Type 0 where
  pub whole : body_length shapes r.kind ≡ Some (length r.body)
  pub in_place : misplaced met r.kind r.body ≡ false
  pub in_limit : over limit met r.kind ≡ false

-- what is met behind records
abbrev pub mets : Met → List Raw → Met
mets met [] = met
mets met (r ∷ rs) = mets (then_met met r.kind r.body) rs

abbrev pub AllPass : Shapes → ℕ → Met → List Raw → Type 0
AllPass shapes limit met [] = Unit {0}
AllPass shapes limit met (r ∷ rs) = Pass shapes limit met r × AllPass shapes limit (then_met met r.kind r.body) rs

abbrev pub behind : List Raw → Result (List Raw) Fault → Result (List Raw) Fault
behind rs (Ok ts) = Ok (rs ++ ts)
behind rs (Err f) = Err f

-- an output record has its terminal
pub output_whole : (shapes : Shapes) (kind n : ℕ) → body_length shapes kind ≡ Some n → is_block kind ≡ false → n ≡ 3
output_whole shapes kind n e b =
    let s : body_length shapes kind ≡ Some 3 = ap (λ c. cond c (option_map (λ f. 5 * length f.pins) (shapes kind)) (Some 3)) b in
    cc

module _ (shapes : Shapes) (limit : ℕ) where
  misplaced_front : (met : Met) (kind : ℕ) (body tail : List ℕ) → body_length shapes kind ≡ Some (length body) → misplaced met kind (body ++ tail) ≡ misplaced met kind body
  misplaced_front met kind body tail e = go (is_block kind) refl
    where
      go : (b : Bool) → is_block kind ≡ b → cond b (met_output met.last) (reached met.last (get_or (body ++ tail) 0 0)) ≡ cond b (met_output met.last) (reached met.last (get_or body 0 0))
      go true q = refl
      go false q = let l = output_whole shapes kind (length body) e q in ap (reached met.last) (get_or_append_left body tail 0 0 (omega arith))

  then_met_front : (met : Met) (kind : ℕ) (body tail : List ℕ) → body_length shapes kind ≡ Some (length body) → then_met met kind (body ++ tail) ≡ then_met met kind body
  then_met_front met kind body tail e = go (is_block kind) refl
    where
      go : (b : Bool) → is_block kind ≡ b → ◌≡◌ {A = Met} (cond b (record { blocks = suc met.blocks; last = met.last }) (record { blocks = met.blocks; last = Some (get_or (body ++ tail) 0 0) }))
          (cond b (record { blocks = suc met.blocks; last = met.last }) (record { blocks = met.blocks; last = Some (get_or body 0 0) }))
      go true q = refl
      go false q = let l = output_whole shapes kind (length body) e q in λ i. record { blocks = met.blocks; last = Some (get_or_append_left body tail 0 0 (omega arith) i) }

  pub skipped : (met : Met) (n place : ℕ) (xs : List ℕ) → walk_one shapes limit met n place xs ≡ walk_one shapes limit met 0 (place + n) (drop n xs)
  skipped met zero place xs = rw (add-zero place)
  skipped met (suc n) place [] = refl
  skipped met (suc n) place (x ∷ xs) = let e : suc place + n ≡ place + suc n = omega arith in skipped met n (suc place) xs ∙ ap (λ k. walk_one shapes limit met 0 k (drop n xs)) e

  fault_none : (met : Met) (kind : ℕ) (rest : List ℕ) (n : ℕ) → n ≤ length rest → misplaced met kind rest ≡ false → over limit met kind ≡ false → fault_one limit met kind rest (Some n) ≡ None
  fault_none met kind rest n l m o = rw (le-ltb (length rest) n l, m, o)

  -- walk one passes over a record
  stepped_over : (met : Met) (place : ℕ) (r : Raw) (tail : List ℕ) → Pass shapes limit met r
      → walk_one shapes limit met 0 place (raw_bytes r ++ tail) ≡ after_record place r None (walk_one shapes limit (then_met met r.kind r.body) 0 (place + length (raw_bytes r)) tail)
  stepped_over met place r tail p =
      let l = length-append r.body tail in
      let m = misplaced_front met r.kind r.body tail p.whole ∙ p.in_place in
      let f = fault_none met r.kind (r.body ++ tail) (length r.body) (omega arith) m p.in_limit in
      let rest = r.body ++ tail in
      let same_place : suc place + length r.body ≡ place + suc (length r.body) = omega arith in
      ap (λ o. after_record place (record { kind = r.kind; body = take (unwrap_or o 0) rest }) (fault_one limit met r.kind rest o) (walk_one shapes limit (then_met met r.kind rest) (unwrap_or o 0) (suc place) rest)) p.whole
      ∙ (λ i. after_record place (record { kind = r.kind; body = take_at r.body tail (length r.body) refl i }) (f i) (walk_one shapes limit (then_met_front met r.kind r.body tail p.whole i) (length r.body) (suc place) rest))
      ∙ ap (after_record place r None) (skipped (then_met met r.kind r.body) (length r.body) (suc place) rest
      ∙ (λ i. walk_one shapes limit (then_met met r.kind r.body) 0 (same_place i) (drop_at r.body tail (length r.body) refl i)))

  behind_more : (place : ℕ) (r : Raw) (rs : List Raw) (w : Result (List Raw) Fault) → after_record place r None (behind rs w) ≡ behind (r ∷ rs) w
  behind_more place r rs (Ok ts) = refl
  behind_more place r rs (Err f) = refl

  behind_none : (w : Result (List Raw) Fault) → w ≡ behind [] w
  behind_none (Ok ts) = refl
  behind_none (Err f) = refl

  -- walk one passes over records that pass
  pub walk_behind : (met : Met) (place : ℕ) (rs : List Raw) (tail : List ℕ) → AllPass shapes limit met rs
      → walk_one shapes limit met 0 place (flat_map raw_bytes rs ++ tail) ≡ behind rs (walk_one shapes limit (mets met rs) 0 (place + length (flat_map raw_bytes rs)) tail)
  walk_behind met place [] tail p = rw (add-zero place) (behind_none (walk_one shapes limit met 0 place tail))
  walk_behind met place (r ∷ rs) tail p =
      let more = flat_map raw_bytes rs in
      let next = then_met met r.kind r.body in
      let l = length-append (raw_bytes r) more in
      let same_place : place + length (raw_bytes r) + length more ≡ place + length (raw_bytes r ++ more) = omega arith in
      ap (walk_one shapes limit met 0 place) (append_assoc (raw_bytes r) more tail)
      ∙ stepped_over met place r (more ++ tail) p.0
      ∙ ap (after_record place r None) (walk_behind next (place + length (raw_bytes r)) rs tail p.1 ∙ ap (λ k. behind rs (walk_one shapes limit (mets next rs) 0 k tail)) same_place)
      ∙ behind_more place r rs (walk_one shapes limit (mets next rs) 0 (place + length (raw_bytes r ++ more)) tail)

  walk_all : (met : Met) (place : ℕ) (rs : List Raw) → AllPass shapes limit met rs → walk_one shapes limit met 0 place (flat_map raw_bytes rs) ≡ Ok rs
  walk_all met place rs p =
      ap (walk_one shapes limit met 0 place) (sym (append-nil (flat_map raw_bytes rs))) ∙ walk_behind met place rs [] p ∙ ap Ok (append-nil rs)

  pub load_records : (rs : List Raw) → AllPass shapes limit nothing_met rs → load shapes limit (flat_map raw_bytes rs) ≡ with_blocks shapes rs (kinds_in rs)
  load_records rs p = ap (after_one shapes) (walk_all nothing_met 0 rs p)

  -- the records that walk one passes over, and the one at which it stops
  pub record Stopped (met : Met) (place : ℕ) (bytes : List ℕ) (f : Fault) : Type 0 where
    pub before : List Raw
    pub kind : ℕ
    pub rest : List ℕ
    pub number : ℕ
    pub passed : AllPass shapes limit met before
    pub bytes_are : bytes ≡ flat_map raw_bytes before ++ kind ∷ rest
    pub fault : fault_one limit (mets met before) kind rest (body_length shapes kind) ≡ Some number
    pub fault_is : f ≡ (number, place + length (flat_map raw_bytes before))

  abbrev pub Walked : Met → ℕ → List ℕ → Result (List Raw) Fault → Type 0
  Walked met place bytes (Ok rs) = AllPass shapes limit met rs × (bytes ≡ flat_map raw_bytes rs)
  Walked met place bytes (Err f) = Stopped met place bytes f

  walked_more : (met : Met) (place : ℕ) (r : Raw) (tail : List ℕ) (w : Result (List Raw) Fault) → Pass shapes limit met r
      → Walked (then_met met r.kind r.body) (place + length (raw_bytes r)) tail w → Walked met place (raw_bytes r ++ tail) (after_record place r None w)
  walked_more met place r tail (Ok rs) p h = ((p, h.0), ap (λ t. raw_bytes r ++ t) h.1)
  walked_more met place r tail (Err f) p h =
      let more = flat_map raw_bytes h.before in
      let l = length-append (raw_bytes r) more in
      let same_place : place + length (raw_bytes r) + length more ≡ place + length (raw_bytes r ++ more) = omega arith in
      record {
        before = r ∷ h.before;
        kind = h.kind;
        rest = h.rest;
        number = h.number;
        passed = (p, h.passed);
        bytes_are = ap (λ t. raw_bytes r ++ t) h.bytes_are ∙ sym (append_assoc (raw_bytes r) more (h.kind ∷ h.rest));
        fault = h.fault;
        fault_is = h.fault_is ∙ ap (λ k. (h.number, k)) same_place;
      }

  record Faultless (met : Met) (kind : ℕ) (rest : List ℕ) (o : Option ℕ) : Type 0 where
    size : ℕ
    known : o ≡ Some size
    enough : size ≤ length rest
    in_place : misplaced met kind rest ≡ false
    in_limit : over limit met kind ≡ false

  faultless : (met : Met) (kind : ℕ) (rest : List ℕ) (o : Option ℕ) → fault_one limit met kind rest o ≡ None → Faultless met kind rest o
  faultless met kind rest None e = let z : ◌≡◌ {A = ℕ} 0 1 = cc in absurd (omega arith)
  faultless met kind rest (Some n) e = go (ltb (length rest) n) (misplaced met kind rest) (over limit met kind) refl refl refl e
    where
      go : (a b c : Bool) → ltb (length rest) n ≡ a → misplaced met kind rest ≡ b → over limit met kind ≡ c → cond {A = Option ℕ} a (Some 1) (cond b (Some 8) (cond c (Some 3) None)) ≡ None → Faultless met kind rest (Some n)
      go true b c p q s h = let z : ◌≡◌ {A = ℕ} 0 1 = cc (h) in absurd (omega arith)
      go false true c p q s h = let z : ◌≡◌ {A = ℕ} 0 1 = cc (h) in absurd (omega arith)
      go false false true p q s h = let z : ◌≡◌ {A = ℕ} 0 1 = cc (h) in absurd (omega arith)
      go false false false p q s h = record { size = n; known = refl; enough = ltb-false (length rest) n p; in_place = q; in_limit = s }

  -- the record that a faultless kind begins
  pass_of : (met : Met) (kind : ℕ) (rest : List ℕ) (h : Faultless met kind rest (body_length shapes kind)) → Pass shapes limit met (record { kind = kind; body = take h.size rest })
  pass_of met kind rest h =
      let l = length-take-le h.size rest h.enough in
      let e : body_length shapes kind ≡ Some (length (take h.size rest)) = h.known ∙ ap Some (sym l) in
      record {
        whole = e;
        in_place = sym (misplaced_front met kind (take h.size rest) (drop h.size rest) e) ∙ ap (misplaced met kind) (take-append-drop h.size rest) ∙ h.in_place;
        in_limit = h.in_limit;
      }

  pub walked : (fuel : ℕ) (met : Met) (place : ℕ) (bytes : List ℕ) → length bytes ≤ fuel → Walked met place bytes (walk_one shapes limit met 0 place bytes)
  walked fuel met place [] l = (tt, refl)
  walked zero met place (kind ∷ rest) l = absurd (omega arith)
  walked (suc fuel) met place (kind ∷ rest) l = go (fault_one limit met kind rest (body_length shapes kind)) refl (λ m k bytes q. walked fuel m k bytes q)
    where
      go : (o : Option ℕ) → fault_one limit met kind rest (body_length shapes kind) ≡ o
          → ((m : Met) (k : ℕ) (bytes : List ℕ) → length bytes ≤ fuel → Walked m k bytes (walk_one shapes limit m 0 k bytes)) → Walked met place (kind ∷ rest) (walk_one shapes limit met 0 place (kind ∷ rest))
      go (Some n) e again =
          let size = unwrap_or (body_length shapes kind) 0 in
          subst (λ o. Walked met place (kind ∷ rest) (after_record place (record { kind = kind; body = take size rest }) o (walk_one shapes limit (then_met met kind rest) size (suc place) rest))) (sym e)
          (record { before = []; kind = kind; rest = rest; number = n; passed = tt; bytes_are = refl; fault = e; fault_is = rw (add-zero place) })
      go None e again =
          let h = faultless met kind rest (body_length shapes kind) e in
          let r : Raw = record { kind = kind; body = take h.size rest } in
          let tail = drop h.size rest in
          let p = pass_of met kind rest h in
          let short = length-drop h.size rest in
          let next = again (then_met met kind r.body) (place + length (raw_bytes r)) tail (omega arith) in
          let result = walked_more met place r tail (walk_one shapes limit (then_met met kind r.body) 0 (place + length (raw_bytes r)) tail) p next in
          let walk = subst (Walked met place (raw_bytes r ++ tail)) (sym (stepped_over met place r tail p)) result in
          subst (λ bytes. Walked met place (kind ∷ bytes) (walk_one shapes limit met 0 place (kind ∷ bytes))) (take-append-drop h.size rest) walk
