use Rattle.std.proofs.Common.{◌≡◌, ◌+◌, take, not, ◌∙◌, rules}
use Rattle.std.specs.Option.{option_map}
use borrow.Author.Tests.{tests}
use Rattle.std.proofs.lemmas.Iterator.{YieldsList-from_slice, YieldsList-from_take}
use Rattle.std.proofs.lemmas.Iterator.Search.{position_from_yields_List}
use Rattle.sheet.specs.Records.{name_byte}
use Rattle.sheet.proofs.Names.{bad_at}
use Rattle.sheet.proofs.records.reading.bad_byte.Goals as goal

pub returns : goal.returns
returns c =
    let bytes = take c.args.count c.args.rest.bytes.now in
    let placed : c.map.result ≡ option_map (λ k. c.args.rest.place + k) c.position.result = search rules in
    let found =
    position_from_yields_List (λ b. not (name_byte b)) _ _ c.position.result c.position.ensures.ran (YieldsList-from_take c.args.count (YieldsList-from_slice c.args.rest.bytes.now cc) cc) (λ x b q k. search (rules, tests)) in
    placed ∙ bad_at bytes c.args.rest.place c.position.result found
