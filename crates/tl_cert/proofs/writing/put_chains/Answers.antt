use Rattle.tl_cert.specs.Text.{chain_pieces}
use Rattle.tl_cert.proofs.Appending.{written_more}
use Rattle.tl_cert.proofs.writing.put_chains.Goals as goal

pub chains-preserved : goal.chains-preserved
chains-preserved c =
    written_more chain_pieces c.args.chains.now c.chains.chain-index c.chain-item.result c.args.out.now c.chains.out
    c.put_chain.new.out c.chains-test.true
    c.chain-item.is
    c.chains.invariant c.in_ok-put_chain.ensures
