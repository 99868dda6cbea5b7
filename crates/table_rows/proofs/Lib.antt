mod Publishable
