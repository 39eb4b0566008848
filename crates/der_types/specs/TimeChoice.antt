-- What a time of RFC 5280 is.
use Rattle.der_types.specs.declared.date_time.DateTime.{DateTime}
use Rattle.der_types.specs.declared.time.Time.{Time}
use Rattle.der_types.specs.declared.time.Time.TheVariants.{Utc, Generalized}

abbrev pub date_time_of : Time → DateTime
date_time_of (Utc time) = time.at
date_time_of (Generalized time) = time.at
