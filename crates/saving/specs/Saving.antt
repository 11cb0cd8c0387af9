-- Save: what it answers, and what the lent buffer then holds. Assumes nothing.
use Rattle.std.specs.Prelude.{ℕ, cond, List, ◌++◌, length, drop, Ok, Err, Result, nat_lt}
use Rattle.charts.specs.Pages.{Page}
use Rattle.charts.specs.Charts.{written}

-- bytes at the front of a buffer, those behind spared
abbrev pub at_front : List ℕ → List ℕ → List ℕ
at_front bytes buffer = bytes ++ drop (length bytes) buffer

-- 13 where the room is shorter than the chart, else the chart's length
abbrev pub room_for : Page → ℕ → Result ℕ ℕ
room_for page room = cond (nat_lt room (length (written page))) (Err 13) (Ok (length (written page)))

-- 13 and the buffer untouched where it is shorter than the chart; else the chart's length, and the chart at the buffer's front
abbrev pub saved : Page → List ℕ → Result ℕ ℕ × List ℕ
saved page buffer = cond (nat_lt (length buffer) (length (written page))) (Err 13, buffer) (Ok (length (written page)), at_front (written page) buffer)
