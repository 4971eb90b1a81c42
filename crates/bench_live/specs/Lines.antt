-- The line that asks for an action while a run goes on (own choice): `CHANNEL ADDRESS ACTION`, `CHANNEL bc CONTROL`, or
-- the first fault in it from left to right.
use Rattle.std.specs.Prelude.{List, [], ◌∷◌, drop, Ok, Err, codes, if◌then◌else◌}
use Rattle.std.specs.Str.{bytes_eq}
use Rattle.mil_word.specs.Fields.{highest_address}
use Rattle.text_lines.specs.Words.{Text, words}
use Rattle.mil_host.specs.declared.reading.BadAction.TheVariants.{Word}
use Rattle.mil_host.specs.Reading.{Read, and_then, number_in, number_of, in_words}
use Rattle.controller_text.specs.Reading.{control_in}
use Rattle.bc_machine.specs.declared.placed.HostAction.{HostAction}
use Rattle.bc_machine.specs.declared.placed.HostAction.TheVariants.{Terminal, Controller}
use Rattle.bench_live.specs.declared.line.LivePost.{LivePost}

-- an action of the terminal at an address, or of the controller
abbrev pub host_action_of : Text → List Text → Read HostAction
host_action_of host ws =
    if bytes_eq host (codes "bc") then and_then (control_in ws) (λ asked. Ok (Controller asked))
    else and_then (number_of 0 highest_address host) (λ address. and_then (in_words ws)
    (λ action. Ok (Terminal address action)))

abbrev pub host_action_in : List Text → Read HostAction
host_action_in [] = Err Word
host_action_in (host ∷ ws) = host_action_of host ws

abbrev pub in_order : List Text → Read LivePost
in_order ws =
    and_then (number_in 1 65535 ws) (λ channel. and_then (host_action_in (drop 1 ws))
    (λ action. Ok (record { channel = channel; action = action })))

-- what a line asks for
unfoldable pub post_of : Text → Read LivePost
post_of line = in_order (words line)
