-- Where labels stand, in pixels from the left (own choice).
use Rattle.std.specs.Prelude.{◌≤◌, ℕ, ◌+◌, ◌*◌}

-- so many labels of 50 pixels find room from a place on, in a width of 1200
abbrev pub HaveRoom : ℕ → ℕ → Type 0
HaveRoom place labels = place + 50 * labels ≤ 1200
