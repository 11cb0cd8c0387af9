-- Walk one as a loop: the walk over a chart is the records gathered so far, then the walk over the rest. Assumes nothing.
use Rattle.std.proofs.Common.{◌≡◌, ℕ, suc, ◌+◌, ◌-◌, ◌≤◌, Bool, true, false, cond, ltb, List, [], ◌∷◌, ◌++◌, length, get_or, take, drop, Some, None, Ok, Err, Option, Result, unwrap_or, sym, refl, ap, ◌∙◌, subst, arith}
use Rattle.std.proofs.lemmas.List.{append_assoc, append-nil, length_push, length-drop, nil_from_length, take_rest}
use Rattle.std.proofs.lemmas.Bool.{ltb-false}
use Rattle.charts.specs.Pages.{Shapes}
use Rattle.charts.specs.Loading.{Fault, Raw, Met, nothing_met, is_block, body_length, misplaced, over, fault_one, then_met, after_record, walk_one, kinds_in, with_blocks, after_one, load}
use Rattle.charts.proofs.WalkOne.{behind, skipped}
use Rattle.loading.specs.Walks.{with_kind}
use Rattle.loading.proofs.Apart.{behind_first, first_and_rest}

-- a record that passes has its whole body behind it
whole_behind : (limit : ℕ) (met : Met) (kind : ℕ) (rest : List ℕ) (o : Option ℕ) → None ≡ fault_one limit met kind rest o → unwrap_or o 0 ≤ length rest
whole_behind limit met kind rest None e = omega arith
whole_behind limit met kind rest (Some n) e = go (ltb (length rest) n) refl e
  where
    go : (b : Bool) → ltb (length rest) n ≡ b → None ≡ cond {A = Option ℕ} b (Some 1) (cond (misplaced met kind rest) (Some 8) (cond (over limit met kind) (Some 3) None)) → n ≤ length rest
    go true q h = let z : ◌≡◌ {A = ℕ} 0 1 = cc (h) in absurd (omega arith)
    go false q h = ltb-false (length rest) n q

behind_push : (place : ℕ) (rs : List Raw) (r : Raw) (w : Result (List Raw) Fault) → behind rs (after_record place r None w) ≡ behind (rs ++ r ∷ []) w
behind_push place rs r (Ok ts) = ap Ok (sym (append_assoc rs (r ∷ []) ts))
behind_push place rs r (Err f) = refl

kinds_push : (rs : List Raw) (r : Raw) → kinds_in (rs ++ r ∷ []) ≡ with_kind (kinds_in rs) r.kind
kinds_push [] r = refl
kinds_push (x ∷ xs) r = go (is_block x.kind) (is_block r.kind) (kinds_push xs r)
  where
    go : (a b : Bool) → kinds_in (xs ++ r ∷ []) ≡ cond b (kinds_in xs ++ r.kind ∷ []) (kinds_in xs)
        → cond a (x.kind ∷ kinds_in (xs ++ r ∷ [])) (kinds_in (xs ++ r ∷ [])) ≡ cond b (cond a (x.kind ∷ kinds_in xs) (kinds_in xs) ++ r.kind ∷ []) (cond a (x.kind ∷ kinds_in xs) (kinds_in xs))
    go true true e = ap (λ ks. x.kind ∷ ks) e
    go true false e = ap (λ ks. x.kind ∷ ks) e
    go false true e = e
    go false false e = e

-- what was met, by the kinds of the blocks and the terminal of the last output record
abbrev pub met_by : List ℕ → Option ℕ → Met
met_by kinds last = record { blocks = length kinds; last = last }

-- the terminal of the last output record, behind one record more
abbrev pub last_behind : Option ℕ → ℕ → List ℕ → Option ℕ
last_behind last kind rest = cond (is_block kind) last (Some (get_or rest 0 0))

met_more : (kinds : List ℕ) (last : Option ℕ) (kind : ℕ) (rest : List ℕ) → then_met (met_by kinds last) kind rest ≡ met_by (with_kind kinds kind) (last_behind last kind rest)
met_more kinds last kind rest = go (is_block kind)
  where
    go : (b : Bool) → ◌≡◌ {A = Met} (cond b (record { blocks = suc (length kinds); last = last }) (record { blocks = length kinds; last = Some (get_or rest 0 0) }))
        (met_by (cond b (kinds ++ kind ∷ []) kinds) (cond b last (Some (get_or rest 0 0))))
    go true = let e : suc (length kinds) ≡ length (kinds ++ kind ∷ []) = let l = length_push kinds kind in omega arith in λ i. record { blocks = e i; last = last }
    go false = refl

module _ (shapes : Shapes) (limit : ℕ) (chart : List ℕ) where
  abbrev pub Gathered : List ℕ → Option ℕ → ℕ → List ℕ → Type 0
  Gathered kinds last at rest =
      (done : List Raw) × (walk_one shapes limit nothing_met 0 0 chart ≡ behind done (walk_one shapes limit (met_by kinds last) 0 at rest)) × (kinds_in done ≡ kinds) × (at + length rest ≡ length chart)

  behind_none : (w : Result (List Raw) Fault) → w ≡ behind [] w
  behind_none (Ok ts) = refl
  behind_none (Err f) = refl

  pub gathered_none : (kinds : List ℕ) → kinds ≡ [] → Gathered kinds None (length chart - length chart) chart
  gathered_none kinds e =
      let l : 0 + length chart ≡ length chart = omega arith in
      let z : 0 ≡ length chart - length chart = omega arith in
      subst (λ p. Gathered kinds None p chart) z ([], behind_none (walk_one shapes limit nothing_met 0 0 chart) ∙ ap (λ ks. behind [] (walk_one shapes limit (met_by ks None) 0 0 chart)) (sym e), sym e, l)

  -- a record that fails is the chart's fault
  gathered_fault : (kinds : List ℕ) (last : Option ℕ) (at kind : ℕ) (rest : List ℕ) (n : ℕ) → Gathered kinds last at (kind ∷ rest)
      → Some n ≡ fault_one limit (met_by kinds last) kind rest (body_length shapes kind) → load shapes limit chart ≡ Err (n, at)
  gathered_fault kinds last at kind rest n h e =
      let size = unwrap_or (body_length shapes kind) 0 in
      let r : Raw = record { kind = kind; body = take size rest } in
      ap (after_one shapes) h.1
      ∙ ap (λ o. after_one shapes (behind h.0 (after_record at r o (walk_one shapes limit (then_met (met_by kinds last) kind rest) size (suc at) rest)))) (sym e)

  -- a record that passes is gathered
  gathered_more : (kinds : List ℕ) (last : Option ℕ) (at kind : ℕ) (rest : List ℕ) → Gathered kinds last at (kind ∷ rest)
      → None ≡ fault_one limit (met_by kinds last) kind rest (body_length shapes kind)
      → let size = unwrap_or (body_length shapes kind) 0 in Gathered (with_kind kinds kind) (last_behind last kind rest) (at + (1 + size)) (drop size rest)
  gathered_more kinds last at kind rest h e =
      let size = unwrap_or (body_length shapes kind) 0 in
      let r : Raw = record { kind = kind; body = take size rest } in
      let fits = whole_behind limit (met_by kinds last) kind rest (body_length shapes kind) e in
      let short = length-drop size rest in
      let place : suc at + size ≡ at + (1 + size) = omega arith in
      let long = h.3 in
      let all : at + (1 + size) + length (drop size rest) ≡ length chart = omega arith in
      let walk = h.1
      ∙ ap (λ o. behind h.0 (after_record at r o (walk_one shapes limit (then_met (met_by kinds last) kind rest) size (suc at) rest))) (sym e)
      ∙ behind_push at h.0 r (walk_one shapes limit (then_met (met_by kinds last) kind rest) size (suc at) rest)
      ∙ ap (behind (h.0 ++ r ∷ [])) (skipped shapes limit (then_met (met_by kinds last) kind rest) size (suc at) rest
      ∙ (λ i. walk_one shapes limit (met_more kinds last kind rest i) 0 (place i) (drop size rest))) in
      (h.0 ++ r ∷ [], walk, kinds_push h.0 r ∙ ap (λ ks. with_kind ks kind) h.2, all)

  -- a turn of the loop: the blocks are counted, the record's kind is the first byte of the rest
  module _ (kinds : List ℕ) (last : Option ℕ) (at : ℕ) (rest : List ℕ) (h : Gathered kinds last at rest) (some : 1 ≤ length rest) (blocks : ℕ) (counted : blocks ≡ length kinds) where
    opened : Gathered kinds last at (get_or rest 0 0 ∷ behind_first rest)
    opened = subst (Gathered kinds last at) (first_and_rest rest some) h

    abbrev pub Tested : Option ℕ
    Tested = fault_one limit (record { blocks = blocks; last = last }) (get_or rest 0 0) (behind_first rest) (body_length shapes (get_or rest 0 0))

    tested : Tested ≡ fault_one limit (met_by kinds last) (get_or rest 0 0) (behind_first rest) (body_length shapes (get_or rest 0 0))
    tested i = fault_one limit (record { blocks = counted i; last = last }) (get_or rest 0 0) (behind_first rest) (body_length shapes (get_or rest 0 0))

    pub turn_fails : (n : ℕ) → Some n ≡ Tested → load shapes limit chart ≡ Err (n, at)
    turn_fails n e = gathered_fault kinds last at (get_or rest 0 0) (behind_first rest) n opened (e ∙ tested)

    pub turn_passes : None ≡ Tested → (n : ℕ) → body_length shapes (get_or rest 0 0) ≡ Some n → (kinds' : List ℕ) → kinds' ≡ with_kind kinds (get_or rest 0 0)
        → (last' : Option ℕ) → last' ≡ last_behind last (get_or rest 0 0) (behind_first rest) → (rest' : List ℕ) → rest' ≡ take (length (behind_first rest) - n) (drop n (behind_first rest))
        → Gathered kinds' last' (length chart - length rest') rest'
    turn_passes e n size kinds' k last' l rest' r =
        let next = gathered_more kinds last at (get_or rest 0 0) (behind_first rest) opened (e ∙ tested) in
        let same : unwrap_or (body_length shapes (get_or rest 0 0)) 0 ≡ n = ap (λ p. unwrap_or p 0) size in
        let moved = subst (λ m. Gathered (with_kind kinds (get_or rest 0 0)) (last_behind last (get_or rest 0 0) (behind_first rest)) (at + (1 + m)) (drop m (behind_first rest))) same next in
        let kept = subst (λ ks. Gathered ks (last_behind last (get_or rest 0 0) (behind_first rest)) (at + (1 + n)) (drop n (behind_first rest))) (sym k) moved in
        let known = subst (λ t. Gathered kinds' t (at + (1 + n)) (drop n (behind_first rest))) (sym l) kept in
        let left : Gathered kinds' last' (at + (1 + n)) rest' = subst (Gathered kinds' last' (at + (1 + n))) (sym (r ∙ take_rest (behind_first rest) n)) known in
        let long = left.3 in
        let place : at + (1 + n) ≡ length chart - length rest' = omega arith in
        subst (λ p. Gathered kinds' last' p rest') place left

  -- at the end the gathered records are the chart's
  pub gathered_all : (kinds : List ℕ) (last : Option ℕ) (at : ℕ) (rest : List ℕ) (h : Gathered kinds last at rest) → length rest ≤ 0 → walk_one shapes limit nothing_met 0 0 chart ≡ Ok h.0
  gathered_all kinds last at rest h e =
      let empty : length rest ≡ 0 = omega arith in
      h.1 ∙ ap (λ bytes. behind h.0 (walk_one shapes limit (met_by kinds last) 0 at bytes)) (nil_from_length rest empty) ∙ ap Ok (append-nil h.0)

  pub gathered_no_block : (kinds : List ℕ) (last : Option ℕ) (at : ℕ) (rest : List ℕ) → Gathered kinds last at rest → length rest ≤ 0 → length kinds ≡ 0 → load shapes limit chart ≡ Err (9, 0)
  gathered_no_block kinds last at rest h e z = ap (after_one shapes) (gathered_all kinds last at rest h e) ∙ ap (with_blocks shapes h.0) (h.2 ∙ nil_from_length kinds z)
