use Rattle.bench_select.proofs.channels.no_channels.Goals as goal

pub returns-clause-items : goal.returns-clause-items
returns-clause-items c = c.in_ok-marks.ensures.items_if_clones_equal (λ x h. h)
