-- A sound page: everything on it exists and fits. Assumes nothing.
use Rattle.std.specs.Prelude.{◌≡◌, ℕ, ◌<◌, ◌≤◌, true, List, [], ◌∷◌, length, Some}
use Rattle.std.specs.List.{AllByRecursion}
use Rattle.signals.specs.Signals.{type_of, clean, Held}
use Rattle.signals.specs.Terminals.{terminal_type}
use Rattle.signals.specs.declared.signal.SignalType.{SignalType}
use Rattle.blocks.specs.Meanings.{Shape}
use Rattle.charts.specs.declared.page.Source.{Source}
use Rattle.charts.specs.declared.page.OutputRecord.{OutputRecord}
use Rattle.charts.specs.Pages.{Block, Page, Shapes, wire_type, kinds_of}

-- A source feeds a pin of type t: a clean constant of that type, an input terminal of that type, or an existing output of that type.
abbrev pub Feeds : Shapes → List ℕ → SignalType → Source → Type 0
Feeds shapes kinds t (Source.Constant x) = (type_of x ≡ t) × (clean x ≡ true) × Held x
Feeds shapes kinds t (Source.Terminal n) = terminal_type n ≡ Some t
Feeds shapes kinds t (Source.Output b o) = wire_type shapes kinds b o ≡ Some t

-- as many sources as pins, each feeding its pin
abbrev pub Fed : Shapes → List ℕ → List SignalType → List Source → Type 0
Fed shapes kinds [] [] = Unit {0}
Fed shapes kinds [] (x ∷ xs) = ⊥
Fed shapes kinds (t ∷ ts) [] = ⊥
Fed shapes kinds (t ∷ ts) (x ∷ xs) = Feeds shapes kinds t x × Fed shapes kinds ts xs

-- the kind has a shape, and each pin is fed; kind 0 is no block's
pub record SoundBlock (shapes : Shapes) (kinds : List ℕ) (b : Block) : Type 0 where
  pub no_output : b.kind ≡ 0 → ⊥
  pub form : Shape
  pub formed : shapes b.kind ≡ Some form
  pub fed : Fed shapes kinds form.pins b.pins

-- the terminal exists, and the output that it shows exists and has its type
pub record SoundOutput (shapes : Shapes) (kinds : List ℕ) (r : OutputRecord) : Type 0 where
  pub row : SignalType
  pub exists : terminal_type r.terminal ≡ Some row
  pub wired : wire_type shapes kinds r.block r.output ≡ Some row

-- each output record's terminal lies above those before it
abbrev pub Above : ℕ → List OutputRecord → Type 0
Above t rs = AllByRecursion (λ r. t < r.terminal) rs

abbrev pub Rising : List OutputRecord → Type 0
Rising [] = Unit {0}
Rising (r ∷ rs) = Above r.terminal rs × Rising rs

pub record Sound (shapes : Shapes) (limit : ℕ) (page : Page) : Type 0 where
  pub some_blocks : 1 ≤ length page.blocks
  pub few_blocks : length page.blocks ≤ limit
  pub blocks_sound : AllByRecursion (SoundBlock shapes (kinds_of page)) page.blocks
  pub outputs_sound : AllByRecursion (SoundOutput shapes (kinds_of page)) page.outputs
  pub rising : Rising page.outputs
