-- `kapitsa_report_c::refusing::tell_place` meets its contract. Assumes nothing.
use Rattle.kapitsa_report_c.proofs.Told.{words_of}
use Rattle.kapitsa_report_c.proofs.refusing.tell_place.Goals as goal

pub put_two-requires : goal.put_two-requires
put_two-requires c =
    c.requires

pub put_two-requires-in-Body : goal.put_two-requires-in-Body
put_two-requires-in-Body c =
    c.requires

pub put_two-requires-in-Rule : goal.put_two-requires-in-Rule
put_two-requires-in-Rule c =
    c.requires

pub put_two-requires-in-Limit : goal.put_two-requires-in-Limit
put_two-requires-in-Limit c =
    c.requires

pub put_two-requires-in-None : goal.put_two-requires-in-None
put_two-requires-in-None c =
    c.requires

pub returns-in-Row : goal.returns-in-Row
returns-in-Row c =
    words_of c.in-Row.is c.put_two.ensures

pub returns-in-Body : goal.returns-in-Body
returns-in-Body c =
    words_of c.in-Body.is c.put_two-in-Body.ensures

pub returns-in-Rule : goal.returns-in-Rule
returns-in-Rule c =
    words_of c.in-Rule.is c.put_two-in-Rule.ensures

pub returns-in-Limit : goal.returns-in-Limit
returns-in-Limit c =
    words_of c.in-Limit.is c.put_two-in-Limit.ensures

pub returns-in-None : goal.returns-in-None
returns-in-None c =
    words_of c.in-None.is c.put_two-in-None.ensures
