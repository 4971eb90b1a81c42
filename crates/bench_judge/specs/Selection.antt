-- Which messages a rule selects (own choice). Its times count from the first time of day of a channel, of which there
-- is a list, where stamps are times of day, and else from tick 0.
use Rattle.std.specs.Prelude.{ℕ, Bool, ◌&&◌, List, Option}
use Rattle.ch11_layout.specs.Stamps.{Recorded}
use Rattle.judge_rules.specs.declared.rules.Rule.{Rule}
use Rattle.bench_select.specs.Selecting.{is_in_span}
use Rattle.bench_select.specs.Selectors.{is_chosen, is_on, selects_commands}

-- the first time of day of each channel that has one
abbrev pub Origins : Type 0
Origins = List (Option ℕ)

abbrev pub selects : Rule → Origins → ℕ → Recorded → Bool
selects rule origins channel m =
    is_chosen rule.channel channel && is_on rule.bus m.block && is_in_span rule.span origins channel m
    && selects_commands rule.selector m
