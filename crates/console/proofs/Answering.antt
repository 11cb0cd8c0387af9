-- The order of the tests of a coded signal. Assumes nothing.
use Rattle.std.proofs.Common.{◌≡◌, ℕ, Bool, true, false, cond, not, List, is_some, Some, None, Option, unwrap_or, sym, refl, ap, ◌∙◌}
use lib.Ieee.{binary32, of_bits}
use Rattle.signals.specs.Coding.{decoded}
use Rattle.signals.specs.declared.signal.Signal.{Signal}
use Rattle.signals.specs.declared.signal.SignalType.{SignalType}
use Rattle.blocks.specs.Meanings.{Meaning}
use Rattle.charts.specs.declared.call.Reply.{Reply}
use Rattle.charts.specs.declared.page.Source.{Source}
use Rattle.charts.specs.Pages.{source}
use Rattle.charts.specs.Boxes.{Box}
use Rattle.charts.specs.Calls.{Outcome, settled, refusal_of_signal, refusal_of_type, sample_refusal, tune_refusal, sampled, tuned}
use Rattle.charts.proofs.Places.{none_some}
use Rattle.console.specs.declared.line.Line.{Line}
use Rattle.console.specs.Asked.{outside, signal_of, pin_type, printed, line_of}
use Rattle.console.specs.Promises.{AnswerLaw}

-- an outcome, as it is printed
abbrev said : Bool → Outcome → Line × Box
said out o = (line_of out o.0, o.1)

-- a sample by the type of its terminal
abbrev sample_by : Box → ℕ → List ℕ → Option SignalType → Line × Box
sample_by box t code u = said (outside u code) (settled (sample_refusal u (signal_of u code)) Reply.Done box (sampled t (signal_of u code) box))

-- a tune by the source and the type of its pin
abbrev tune_by : Box → ℕ → ℕ → List ℕ → Option Source → Option SignalType → Line × Box
tune_by box b p code s u = said (outside u code) (settled (tune_refusal s u (signal_of u code)) Reply.Done box (tuned b p (signal_of u code) box))

-- 10 and 14 are printed as they are
ten : (out : Bool) → printed out 10 ≡ 10
ten true = refl
ten false = refl

fourteen : (out : Bool) → printed out 14 ≡ 14
fourteen true = refl
fourteen false = refl

module _ (u : SignalType) (code : List ℕ) where
  is_outside : decoded u code ≡ None → outside (Some u) code ≡ true
  is_outside e = ap (λ o. not (is_some o)) e

  not_outside : (x : Signal) → decoded u code ≡ Some x → outside (Some u) code ≡ false
  not_outside x e = ap (λ o. not (is_some o)) e

  its_signal : (x : Signal) → decoded u code ≡ Some x → signal_of (Some u) code ≡ x
  its_signal x e = ap (λ o. unwrap_or o (Signal.Real (of_bits binary32 0))) e

-- a code outside a type is refused as a signal of another type; no code is outside DINT and REAL
unlike : (u : SignalType) (code : List ℕ) → decoded u code ≡ None → refusal_of_signal u (signal_of (Some u) code) ≡ Some 11
unlike SignalType.Bool code e = ap (λ o. refusal_of_signal SignalType.Bool (unwrap_or o (Signal.Real (of_bits binary32 0)))) e
unlike SignalType.Int code e = ap (λ o. refusal_of_signal SignalType.Int (unwrap_or o (Signal.Real (of_bits binary32 0)))) e
unlike SignalType.Dint code e = none_some (sym e)
unlike SignalType.Real code e = none_some (sym e)

pub answered : (m : Meaning) (box : Box) → AnswerLaw m box
answered m box =
    record {
      sample_missing = λ t code e. ap (sample_by box t code) e;
      sample_outside = λ t code u e h. ap (sample_by box t code) e ∙ (λ i. said (is_outside u code h i) (settled (unlike u code h i) Reply.Done box (sampled t (signal_of (Some u) code) box)));
      sample_of = λ t code u x e h.
          ap (sample_by box t code) e
          ∙ (λ i. said (not_outside u code x h i) (settled (refusal_of_signal u (its_signal u code x h i)) Reply.Done box (sampled t (its_signal u code x h i) box)))
          ∙ sym (ap (λ o. said false (settled (sample_refusal o x) Reply.Done box (sampled t x box))) e);
      tune_missing = λ b p code e. ap (λ s. tune_by box b p code s (pin_type m box b p)) e ∙ ap (λ n. (Line.Refused n, box)) (ten (outside (pin_type m box b p) code));
      tune_wired = λ b p code s e k.
          let u = pin_type m box b p in
          let x = signal_of u code in
          ap (λ w. tune_by box b p code w u) e
          ∙ ap (λ w. said (outside u code) (settled (cond w (refusal_of_type u x) (Some 14)) Reply.Done box (tuned b p x box))) k
          ∙ ap (λ n. (Line.Refused n, box)) (fourteen (outside u code));
      tune_outside = λ b p code s u e k f h.
          (λ i. tune_by box b p code (e i) (f i))
          ∙ (λ i. said (is_outside u code h i) (settled (cond (k i) (unlike u code h i) (Some 14)) Reply.Done box (tuned b p (signal_of (Some u) code) box)));
      tune_of = λ b p code u x f h.
          let s = source box.page b p in
          ap (tune_by box b p code s) f
          ∙ (λ i. said (not_outside u code x h i) (settled (tune_refusal s (Some u) (its_signal u code x h i)) Reply.Done box (tuned b p (its_signal u code x h i) box)))
          ∙ sym (ap (λ o. said false (settled (tune_refusal s o x) Reply.Done box (tuned b p x box))) f);
    }
