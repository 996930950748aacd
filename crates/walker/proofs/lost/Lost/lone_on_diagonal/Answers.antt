-- `lone_on_diagonal` meets its contract: each return is a law of `SearchLaws`. Assumes nothing.
use Rattle.walker.specs.SearchLaws.{on_kept, diagonal_one}
use Rattle.walker.proofs.lost.Lost.lone_on_diagonal.Goals as goal

pub returns-in-None : goal.returns-in-None
returns-in-None c =
    diagonal_one c.args.self.now.map.now.fair (on_kept c.args.self.now.a c.args.self.now.b c.from-u.ensures c.if-u-self.false c.if-upper.false) c.in_ok-i.ensures c.in-None.ensures
