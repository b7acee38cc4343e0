use Rattle.host.proofs.Written.{claims-read, claims-none}
use Rattle.host.proofs.writing.claims_in.Goals as goal

pub returns-then-claims-ne-CLAIMS_LEN : goal.returns-then-claims-ne-CLAIMS_LEN
returns-then-claims-ne-CLAIMS_LEN c = claims-none c.args.claims.now c.if-claims-ne-CLAIMS_LEN.true

pub returns : goal.returns
returns c =
    claims-read c.args.claims.now c.read_set-writable.result c.read_set-readable.result c.read_set-inquirable.result c.if-claims-ne-CLAIMS_LEN.false
    c.read_set-writable.ensures c.read_set-readable.ensures c.read_set-inquirable.ensures
