-- Records that pass by what was met are records that pass by the records before them. Assumes nothing.
use Rattle.std.proofs.Common.{◌≡◌, ℕ, Bool, true, false, List, [], ◌∷◌, ◌++◌, Decides, sym, refl, subst}
use Rattle.std.proofs.lemmas.List.{append_assoc, append-nil}
use Rattle.std.proofs.lemmas.Bool.{both_ways}
use Rattle.charts.specs.Pages.{Shapes}
use Rattle.charts.specs.Loading.{Raw, Met, nothing_met, then_met, misplaced, over}
use Rattle.charts.specs.Faults.{PassesOne, AllPassOne, none, more}
use Rattle.charts.proofs.FaultOne.{Tells, tells_nothing, tells_more, misplaced_decides, over_decides}
use Rattle.charts.proofs.WalkOne.{Pass, AllPass, mets}

refuted : (P : Type 0) (b : Bool) → Decides b P → (P → ⊥) → b ≡ false
refuted P true d n = absurd (n (d.0 refl))
refuted P false d n = refl

module _ (shapes : Shapes) (limit : ℕ) where
  pass_before : (met : Met) (before : List Raw) → Tells met before → (r : Raw) → Pass shapes limit met r → PassesOne shapes limit before r
  pass_before met before h r p = record {
    whole = p.whole;
    in_place = λ q. both_ways (misplaced met r.kind r.body) p.in_place ((misplaced_decides met before h r.kind r.body).1 q);
    in_limit = λ q. both_ways (over limit met r.kind) p.in_limit ((over_decides met before h limit r.kind).1 q);
  }

  before_pass : (met : Met) (before : List Raw) → Tells met before → (r : Raw) → PassesOne shapes limit before r → Pass shapes limit met r
  before_pass met before h r p = record {
    whole = p.whole;
    in_place = refuted _ (misplaced met r.kind r.body) (misplaced_decides met before h r.kind r.body) p.in_place;
    in_limit = refuted _ (over limit met r.kind) (over_decides met before h limit r.kind) p.in_limit;
  }

  passed_from : (met : Met) (before : List Raw) → Tells met before → AllPassOne shapes limit before → (rs : List Raw) → AllPass shapes limit met rs
      → AllPassOne shapes limit (before ++ rs) × Tells (mets met rs) (before ++ rs)
  passed_from met before h a [] p = (subst (AllPassOne shapes limit) (sym (append-nil before)) a, subst (Tells met) (sym (append-nil before)) h)
  passed_from met before h a (r ∷ rs) p =
      let one = pass_before met before h r p.0 in
      let next = passed_from (then_met met r.kind r.body) (before ++ r ∷ []) (tells_more met before h r one.in_place) (more a one) rs p.1 in
      let e = append_assoc before (r ∷ []) rs in
      (subst (AllPassOne shapes limit) e next.0, subst (Tells (mets met (r ∷ rs))) e next.1)

  -- from the first record on
  pub passed_one : (rs : List Raw) → AllPass shapes limit nothing_met rs → AllPassOne shapes limit rs × Tells (mets nothing_met rs) rs
  passed_one rs p = passed_from nothing_met [] tells_nothing none rs p

  pass_push : (met : Met) (rs : List Raw) (r : Raw) → AllPass shapes limit met rs → Pass shapes limit (mets met rs) r → AllPass shapes limit met (rs ++ r ∷ [])
  pass_push met [] r a p = (p, tt)
  pass_push met (x ∷ xs) r all p = (all.0, pass_push (then_met met x.kind x.body) xs r all.1 p)

  mets_push : (met : Met) (rs : List Raw) (r : Raw) → mets met (rs ++ r ∷ []) ≡ then_met (mets met rs) r.kind r.body
  mets_push met [] r = refl
  mets_push met (x ∷ xs) r = mets_push (then_met met x.kind x.body) xs r

  pub one_passed : (rs : List Raw) → AllPassOne shapes limit rs → AllPass shapes limit nothing_met rs × Tells (mets nothing_met rs) rs
  one_passed rs none = (tt, tells_nothing)
  one_passed rs (more {rs = xs} {r = r} a p) =
      let h = one_passed xs a in (
        pass_push nothing_met xs r h.0 (before_pass (mets nothing_met xs) xs h.1 r p),
        subst (λ m. Tells m (xs ++ r ∷ [])) (sym (mets_push nothing_met xs r)) (tells_more (mets nothing_met xs) xs h.1 r p.in_place),
      )
