-- `lines::words::Words::word` meets its contract: the bytes before the first space are the word. Assumes nothing.
use Rattle.std.proofs.Common.{◌≡◌, ◌+◌, ◌-◌, rules, tests, refl, sym, length, drop, take, nat_eq, position, option_map, eqb-true}
use Rattle.std.proofs.lemmas.Bool.{eqb-false}
use Rattle.std.proofs.lemmas.Iterator.{YieldsList-from_slice}
use Rattle.std.proofs.lemmas.Iterator.Search.{position_from_yields_List}
use Rattle.lines.specs.Words.{rest_at}
use Rattle.lines.proofs.Spaces.{word_is, none_is, next_is}
use Rattle.lines.proofs.words.Words.word.Goals as goal

pub returns-in_default : goal.returns-in_default
unfolding rest_at
returns-in_default c = record { word = rw c.in_default.is; asked = record { line = refl; next = rw c.in_default.is } }

pub returns-then-is_empty : goal.returns-then-is_empty
returns-then-is_empty c =
    let s = c.args.self.now.line.now in
    let i = c.in-Some.start in
    let at : c.position-space.result ≡ position (λ b. nat_eq b 32) (take (length s - i) (drop i s)) =
    position_from_yields_List (λ b. nat_eq b 32) _ _ c.position-space.result c.position-space.ensures.ran (YieldsList-from_slice _ c.iter.ensures.rest) (λ x b q k. search (rules, tests)) in
    let none = none_is s i c.position-space.result c.unwrap_or.result at c.unwrap_or.ensures (eqb-true _ 0 (sym c.if-is_empty.ensures)) in
    record { word = rw c.in-Some.is none; asked = record { line = refl; next = rw (c.in-Some.is, none) } }

pub returns : goal.returns
returns c =
    let s = c.args.self.now.line.now in
    let i = c.in-Some.start in
    let e = c.position-space.result in
    let at : e ≡ position (λ b. nat_eq b 32) (take (length s - i) (drop i s)) =
    position_from_yields_List (λ b. nat_eq b 32) _ _ e c.position-space.ensures.ran (YieldsList-from_slice _ c.iter.ensures.rest) (λ x b q k. search (rules, tests)) in
    let m : c.map-self.result ≡ option_map (λ k. i + k + 1) e = search (rules, tests) in
    let next = next_is s i e c.unwrap_or.result at c.unwrap_or.ensures (eqb-false _ 0 (sym c.if-is_empty.ensures)) in
    record {
      word = rw c.in-Some.is (record { word = word_is s i e c.unwrap_or.result at c.unwrap_or.ensures; after = rw m next });
      asked = record { line = refl; next = rw (c.in-Some.is, m, next) };
    }
