use Rattle.der_read.proofs.kerberos_message.KerberosMessageSerialize.serialize.Goals as goal

pub returns-in-ApReq-clause-wrote : goal.returns-in-ApReq-clause-wrote
returns-in-ApReq-clause-wrote g c = rw c.in-ApReq.is c.serialize_choice-in-ApReq.ensures.wrote

pub returns-in-ApReq-clause-failed : goal.returns-in-ApReq-clause-failed
returns-in-ApReq-clause-failed g c = rw c.in-ApReq.is c.serialize_choice-in-ApReq.ensures.failed

pub returns-in-ApRep-clause-wrote : goal.returns-in-ApRep-clause-wrote
returns-in-ApRep-clause-wrote g c = rw c.in-ApRep.is c.serialize_choice-in-ApRep.ensures.wrote

pub returns-in-ApRep-clause-failed : goal.returns-in-ApRep-clause-failed
returns-in-ApRep-clause-failed g c = rw c.in-ApRep.is c.serialize_choice-in-ApRep.ensures.failed

pub returns-in-KrbSafe-clause-wrote : goal.returns-in-KrbSafe-clause-wrote
returns-in-KrbSafe-clause-wrote g c = rw c.in-KrbSafe.is c.serialize_choice-in-KrbSafe.ensures.wrote

pub returns-in-KrbSafe-clause-failed : goal.returns-in-KrbSafe-clause-failed
returns-in-KrbSafe-clause-failed g c = rw c.in-KrbSafe.is c.serialize_choice-in-KrbSafe.ensures.failed

pub returns-in-KrbPriv-clause-wrote : goal.returns-in-KrbPriv-clause-wrote
returns-in-KrbPriv-clause-wrote g c = rw c.in-KrbPriv.is c.serialize_choice-in-KrbPriv.ensures.wrote

pub returns-in-KrbPriv-clause-failed : goal.returns-in-KrbPriv-clause-failed
returns-in-KrbPriv-clause-failed g c = rw c.in-KrbPriv.is c.serialize_choice-in-KrbPriv.ensures.failed

pub returns-in-KrbCred-clause-wrote : goal.returns-in-KrbCred-clause-wrote
returns-in-KrbCred-clause-wrote g c = rw c.in-KrbCred.is c.serialize_choice-in-KrbCred.ensures.wrote

pub returns-in-KrbCred-clause-failed : goal.returns-in-KrbCred-clause-failed
returns-in-KrbCred-clause-failed g c = rw c.in-KrbCred.is c.serialize_choice-in-KrbCred.ensures.failed
