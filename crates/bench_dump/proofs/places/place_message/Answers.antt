use Rattle.bench_dump.specs.TimedText.{timed_line}
use Rattle.bench_dump.proofs.Placing.{placed_then}
use Rattle.bench_dump.proofs.places.place_message.Goals as goal

pub returns : goal.returns
unfolding timed_line
returns c =
    placed_then _ _ _ _ _ _ _ _ c.place_number-at.ensures.placed
    (placed_then _ _ _ _ _ _ _ _ c.place_number-at-2.ensures.placed
    (placed_then _ _ _ _ _ _ _ _ c.place_number-at-3.ensures.placed
    (placed_then _ _ _ _ _ _ _ _ c.place_time-at.ensures.placed
    (placed_then _ _ _ _ _ _ _ _ c.place_word-at.ensures.placed
    (placed_then _ _ _ _ _ _ _ _ c.place_word-at-2.ensures.placed
    (placed_then _ _ _ _ _ _ _ _ c.place_label-at.ensures.placed
    (placed_then _ _ _ _ _ _ _ _ c.place_bus_words-at.ensures.placed c.place_label.ensures.placed)))))))
