use Rattle.std.proofs.Common.{suc, true, false, length, refl}
use Rattle.std.proofs.lemmas.Result.{err_from_is_err_and}
use Rattle.tl_cert.specs.inner.CertReading.{chains_reading, chains_at}
use Rattle.tl_cert.specs.inner.reading.Lists.{all_at}
use Rattle.tl_cert.proofs.Loops.{Stops, stops_by, pushed_on, fails_on, stops_at, fails_at, starts, refuel}
use Rattle.tl_cert.proofs.text.Chains.{chains_form, chains_unlimited, chain_shorter}
use Rattle.tl_cert.proofs.reader.Reader.chains.Goals as goal

pub chains-init : goal.chains-init
unfolding all_at
chains-init c = rw c.new-chains.ensures (starts chains_reading (suc (length c.args.self.now.rest.now))
    true c.args.self.now.rest.now)

pub returns-in_err-chain : goal.returns-in_err-chain
returns-in_err-chain c =
    let p = err_from_is_err_and c.from_residual.result c.from_residual.ensures.1 in
    let text = c.chains.self.rest.now in
    rw (p.1, p.2) (fails_on chains_reading c.in_err-chain.field-0.0 c.chains.chains (suc (length text)) (length text)
    c.chains.first text
    (chains_at c.args.self.now.rest.now) refl (cc) c.in_err-chain.ensures c.chains.invariant)

pub chains-preserved : goal.chains-preserved
chains-preserved c =
    let text = c.chains.self.rest.now in
    let rest = c.chain.new.self.rest.now in
    let chain = c.in_ok-chain.chain in
    let shorter = chain_shorter text chain rest c.in_ok-chain.ensures in
    refuel chains_reading chains_form chains_unlimited c.push.new.self (length text) false rest
    (chains_at c.args.self.now.rest.now) shorter
    (pushed_on chains_reading c.chains.chains c.push.new.self (suc (length text)) (length text) c.chains.first false text
    chain chain rest (chains_at c.args.self.now.rest.now) c.in_ok-push.ensures.ok refl refl refl (cc)
    c.in_ok-chain.ensures c.chains.invariant)

pub chains-smaller : goal.chains-smaller
chains-smaller c = chain_shorter c.chains.self.rest.now c.in_ok-chain.chain c.chain.new.self.rest.now c.in_ok-chain.ensures

pub returns-in_err-word : goal.returns-in_err-word
returns-in_err-word c =
    let p = err_from_is_err_and c.from_residual-in_err-word.result c.from_residual-in_err-word.ensures.1 in
    let text = c.chains.self.rest.now in
    let room = suc (length text) in
    let stop : Stops chains_reading room c.chains.first text = stops_by chains_reading room c.chains.first text (λ j is. cc) in
    rw (p.1, p.2) (fails_at chains_reading c.in_err-word.field-0.0 c.chains.chains room c.chains.first text
    (chains_at c.args.self.now.rest.now) stop c.in_err-word.ensures c.chains.invariant)

pub returns : goal.returns
returns c =
    let text = c.chains.self.rest.now in
    let room = suc (length text) in
    let stop : Stops chains_reading room c.chains.first text = stops_by chains_reading room c.chains.first text (λ j is. cc) in
    stops_at chains_reading c.chains.chains room c.chains.first text tt c.word.new.self.rest.now
    (chains_at c.args.self.now.rest.now) stop c.in_ok-word.ensures c.chains.invariant
