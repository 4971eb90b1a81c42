use Rattle.bench_export.proofs.stamped.push_time.Goals as goal

pub returns-in-Some : goal.returns-in-Some
returns-in-Some c = rw c.in-Some.is (rw (c.as_bytes.ensures, c.text.ensures) at c.push-in-Some.ensures)
