-- `Tables::argument_demanded` meets its contract: what the walk of the argument's span records makes the demands.
use lib.Seq.{length-take-le}
use mathlib.Core.Path.{sym}
use Rattle.masks.specs.Sets.{mask}
use Rattle.fit.proofs.CodeLaws.{argument_lent, argument_room, argument_reads, argument_demands}
use Rattle.fit.proofs.tables.Tables.argument_demanded.Goals as goal

pub walk_at-requires : goal.walk_at-requires
walk_at-requires c =
    let t = c.args.self.now in
    let s = c.argument_span-span in
    argument_lent t.patterns.now t.nodes.tokens.now t.nodes.numbers.now c.args.face (mask c.args.set) s.result s.ensures
    c.args.scratch.now t.pattern_table t.node_table c.requires.room c.requires.walks

pub slice_bounds-all_demanded-end : goal.slice_bounds-all_demanded-end
slice_bounds-all_demanded-end c =
    let t = c.args.self.now in
    let s = c.argument_span-span in
    let w = c.walk_at in
    argument_room t.patterns.now t.nodes.tokens.now t.nodes.numbers.now c.args.face (mask c.args.set) s.result s.ensures
    c.args.scratch.now w.new.out w.result w.ensures c.in-Some.n c.in-Some.is

pub slice_bounds-all_demanded-end-in-Some : goal.slice_bounds-all_demanded-end-in-Some
slice_bounds-all_demanded-end-in-Some c =
    let t = c.args.self.now in
    let s = c.argument_span-span in
    let w = c.walk_at in
    sym (length-take-le c.in-Some.n w.new.out
    (argument_room t.patterns.now t.nodes.tokens.now t.nodes.numbers.now c.args.face (mask c.args.set) s.result s.ensures
    c.args.scratch.now w.new.out w.result w.ensures c.in-Some.n c.in-Some.is))

pub all_demanded-requires : goal.all_demanded-requires
all_demanded-requires c =
    let t = c.args.self.now in
    let s = c.argument_span-span in
    let w = c.walk_at in (
      c.requires.kept,
      argument_reads t.patterns.now t.nodes.tokens.now t.nodes.numbers.now c.args.face (mask c.args.set) s.result s.ensures
          c.args.scratch.now w.new.out w.result w.ensures c.in-Some.n c.in-Some.is c.requires.walks,
    )

pub returns-in-Some : goal.returns-in-Some
returns-in-Some c =
    let t = c.args.self.now in
    let s = c.argument_span-span in
    let w = c.walk_at in
    argument_demands t.patterns.now t.nodes.tokens.now t.nodes.numbers.now c.args.face (mask c.args.set) s.result s.ensures
    c.args.scratch.now w.new.out w.result w.ensures c.in-Some.n c.in-Some.is
    c.args.kept.now.nodes _ c.all_demanded.ensures
