use Rattle.bc_machine.proofs.Coming.{first_comes, own_comes}
use Rattle.bc_machine.proofs.parts.Parts.either.Goals as goal

pub returns-in-Some : goal.returns-in-Some
returns-in-Some c =
    first_comes c.args.self.now c.requires.able.counted c.args.alternates c.args.index c.in-Some.inserted c.requires.there (rw c.in-Some.is at c.in_ok-inserted.ensures.soon)
    (rw c.in-Some.is at c.in_ok-inserted.ensures.comes)

pub returns-in_ok-about-in-None : goal.returns-in_ok-about-in-None
returns-in_ok-about-in-None c =
    own_comes c.args.self.now c.requires.able.counted c.args.alternates c.args.index c.in_ok-about-in-None.field-0 c.requires.able (rw c.in-None.is at c.in_ok-inserted.ensures.comes) c.requires.there
    c.in_ok-about-in-None.ensures
