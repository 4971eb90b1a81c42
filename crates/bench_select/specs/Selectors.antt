-- Which messages a selector is about, by their command words (MIL-STD-1553B 4.3.3.5.1); that it does is our own choice.
-- A message without words has no command.
use Rattle.std.specs.Prelude.{ℕ, ◌==◌, Bool, true, false, not, if◌then◌else◌, Option, Some, None}
use Rattle.ch11_layout.specs.Stamps.{Recorded}
use Rattle.ch11_layout.specs.BlockStatus.{is_on_line_b}
use Rattle.ch11_layout.specs.Layouts.{word_of, first_word, commands_in}
use Rattle.mil_word.specs.declared.Line.{Line}
use Rattle.mil_word.specs.declared.Line.TheVariants as line
use Rattle.judge_rules.specs.declared.rules.Selector.{Selector}
use Rattle.judge_rules.specs.declared.rules.Selector.TheVariants.{Any}
use Rattle.judge_rules.specs.Selecting.{selects}
pub use Rattle.judge_rules.specs.Selecting.{is_chosen}

abbrev pub second_word : Recorded → ℕ
second_word m = word_of m.bytes 1

abbrev pub is_any : Selector → Bool
is_any Any = true
is_any _ = false

abbrev pub selects_commands : Selector → Recorded → Bool
selects_commands selector m =
    if commands_in m == 0 then is_any selector
    else if commands_in m == 1 then selects selector (first_word m) None
    else selects selector (first_word m) (Some (second_word m))

-- of the line of the bus, by the block status word
abbrev pub is_on : Option Line → ℕ → Bool
is_on None block = true
is_on (Some line.A) block = not (is_on_line_b block)
is_on (Some line.B) block = is_on_line_b block
