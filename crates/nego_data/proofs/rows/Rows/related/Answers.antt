use Rattle.std.proofs.Common.{arith}
use Rattle.std.proofs.lemmas.List.{get_or_read}
use Rattle.nego_data.specs.Tables.{word_place}
use Rattle.nego_data.proofs.Words.{place_seen, bit_seen, table_seen}
use Rattle.nego_data.proofs.rows.Rows.related.Goals as goal

pub index-word-requires : goal.index-word-requires
index-word-requires c =
    let place = place_seen c.self.inside.all c.self.inside.words.items c.args.self.now c.self.invariant c.self.view_is c.args.d c.args.e c.requires.from c.requires.to in
    omega (arith, place, c.word_place.ensures, c.self.inside.words.ok.0)

pub returns-clause-value : goal.returns-clause-value
returns-clause-value c =
    let words = c.self.inside.words.items in
    let place = place_seen c.self.inside.all words c.args.self.now c.self.invariant c.self.view_is c.args.d c.args.e c.requires.from c.requires.to in
    let read = get_or_read words (word_place c.self.inside.all c.args.d c.args.e) c.index-word.result.now place (rw (← c.word_place.ensures) c.index-word.ensures) 0 in
    bit_seen c.self.inside.all words c.args.self.now c.self.invariant c.self.view_is c.args.d c.args.e c.requires.from c.requires.to c.index-word.result.now read

pub returns-clause-table : goal.returns-clause-table
returns-clause-table c =
    table_seen c.self.inside.all c.self.inside.words.items c.args.self.now c.self.invariant c.self.view_is c.args.d c.args.e c.requires.from c.requires.to
